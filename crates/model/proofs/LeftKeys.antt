-- Every WRITE of a line's graph has a key for each left variable. Assumes nothing.
use Rattle.std.proofs.Common.{ℕ, List, [], ◌∷◌, length}
use Rattle.std.specs.List.{AllByRecursion}
use Rattle.model.specs.Terms.{Term}
use Rattle.model.specs.Reading.{line_of}
use Rattle.model.specs.Lowering.{lower_term}
use Rattle.model.specs.Named.{KeysOf, WritesKeys}
use Rattle.model.proofs.Pieces.{Any, each_bears}
use Rattle.model.proofs.TermPieces.{EachCommand, term_bears}

all_any : {A : Type 0} (xs : List A) → AllByRecursion Any xs
all_any [] = tt
all_any (x ∷ xs) = (tt, all_any xs)

keyed : (left : List ℕ) → EachCommand (KeysOf (length left)) Any left
keyed left =
    record {
      root = λ out. tt;
      scan = λ a h v e r c k. tt;
      meet = λ a b out. tt;
      join = λ a b out. tt;
      align = λ c r z out. tt;
      repeat = λ r z out. tt;
      load = λ a h r out. tt;
      mul = λ a b out. tt;
      add = λ a b out. tt;
      sum = λ a out. tt;
      write = λ d v zs ks e. e;
    }

pub writes_keys : WritesKeys
writes_keys l =
    let left = (line_of l).left in
    (each_bears (KeysOf (length left)) (Any {A = Term}) Any (lower_term left (line_of l).order)
    (λ t any. term_bears (KeysOf (length left)) Any left (keyed left) (line_of l).order t (all_any t.accesses)) (line_of l).terms (all_any (line_of l).terms) 0).0
