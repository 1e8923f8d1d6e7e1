-- The commands of an accepted line's graph name filled slots, and levels that their tensors have. Assumes nothing.
use Rattle.std.proofs.Common.{◌≡◌, ℕ, ◌<◌, true, List, length, IfNone, Some, None, Option, arith, MatchOption}
use Rattle.std.specs.List.{AllByRecursion}
use Rattle.std.proofs.ByRecursion.{All-map, All-weaker}
use Rattle.std.proofs.lemmas.Bool.{eqb-true, false≢true}
use Rattle.model.specs.Terms.{Access, Term}
use Rattle.model.specs.Reading.{accesses, terms_from, term_of, body_place, line_of}
use Rattle.model.specs.Conditions.{Slots, fits_slot}
use Rattle.model.specs.Lowering.{place, lower_term}
use Rattle.model.specs.Named.{NamesHeld, Named}
use Rattle.model.proofs.Members.{place_below}
use Rattle.model.proofs.Acceptance.{Sound, clean, sound}
use Rattle.model.proofs.Readings.{all_terms}
use Rattle.model.proofs.Pieces.{Any, each_bears}
use Rattle.model.proofs.TermPieces.{EachCommand, term_bears}

-- a slot that fits an access has a level for each of its variables
filled_level : (o : Option (List ℕ)) (vs : List ℕ) (k : ℕ) → fits_slot o vs ≡ true → k < length vs → MatchOption o ⊥ (λ es. k < length es)
filled_level None vs k h lt = false≢true h
filled_level (Some es) vs k h lt = omega (arith, eqb-true (length es) (length vs) h)

filled_slot : (o : Option (List ℕ)) (vs : List ℕ) → fits_slot o vs ≡ true → IfNone o ⊥
filled_slot None vs h = false≢true h
filled_slot (Some es) vs h = tt

-- the slot of an access is filled with as many extents as it has variables
abbrev Held : Slots → Access → Type 0
Held slots a = fits_slot (slots a.slot) a.vars ≡ true

names_held : (slots : Slots) (left : List ℕ) → EachCommand (NamesHeld slots) (Held slots) left
names_held slots left =
    record {
      root = λ out. tt;
      scan = λ a h v e r c k. filled_level (slots a.slot) a.vars (place a.vars v) h (place_below a.vars v e);
      meet = λ a b out. tt;
      join = λ a b out. tt;
      align = λ c r z out. tt;
      repeat = λ r z out. tt;
      load = λ a h r out. filled_slot (slots a.slot) a.vars h;
      mul = λ a b out. tt;
      add = λ a b out. tt;
      sum = λ a out. tt;
      write = λ d v zs ks e. tt;
    }

pub named : Named
named slots l formed h =
    let us = terms_from (body_place l) l.body in
    let held = All-weaker (Sound slots l) (Held slots) (λ a s. s.filled) (accesses l.body) (sound slots l (clean slots l h)) in
    (each_bears (NamesHeld slots) (λ (t : Term). AllByRecursion (Held slots) t.accesses) Any (lower_term l.left l.order) (term_bears (NamesHeld slots) (Held slots) l.left (names_held slots l.left) l.order) (line_of l).terms
    (All-map (λ (t : Term). AllByRecursion (Held slots) t.accesses) term_of us (all_terms (Held slots) (body_place l) l.body held)) 0).0
