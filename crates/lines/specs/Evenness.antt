-- The variables of nodes, and the sums and terms that lack some, as they are tried on the nodes. Assumes nothing.
use Rattle.std.specs.Prelude.{◌≡◌, ℕ, Bool, cond, not, ◌&&◌, List, map, Some, None, Option}
use Rattle.reader.specs.declared.node.Node.{Node}
use Rattle.model.specs.Grammar.{Tree, Vars}
use Rattle.model.specs.Reading.{Placed, terms_from}
use Rattle.model.specs.Conditions.{Check, first_fault, tree_vars, all_in, same_vars, last_product, additions}
use Rattle.reader.specs.Nodes.{Holds}
use Rattle.lines.specs.declared.sets.VarSet.{VarSet}
use Rattle.lines.specs.Sets.{WithAll, SetOf}
use Rattle.lines.specs.Ties.{Tied}

-- what is so of each tree that a node stands for in a text
abbrev pub EveryTree : (ℕ → Tree → Type 0) → List ℕ → List Node → ℕ → Type 0
EveryTree P s ns i = (t : Tree) (at : ℕ) → Holds t at ns i → Tied s at t → P at t

abbrev pub Adds : List ℕ → List Node → ℕ → VarSet → VarSet → Type 0
Adds s ns i old new = EveryTree (λ at t. WithAll old (tree_vars t) new) s ns i

abbrev pub HasVars : List ℕ → List Node → ℕ → VarSet → Type 0
HasVars s ns i r = EveryTree (λ at t. SetOf (tree_vars t) r) s ns i

abbrev pub HasLastVars : List ℕ → List Node → ℕ → VarSet → Type 0
HasLastVars s ns i r = EveryTree (λ at t. SetOf (tree_vars (last_product t)) r) s ns i

abbrev pub Alike : List ℕ → List Node → ℕ → ℕ → Bool → Type 0
Alike s ns i j r = EveryTree (λ p a. EveryTree (λ q b. r ≡ same_vars (tree_vars (last_product a)) (tree_vars b)) s ns j) s ns i

abbrev pub PlusEvenly : List ℕ → List Node → ℕ → ℕ → ℕ → Bool → Option ℕ → Type 0
PlusEvenly s ns i j place inside r =
    EveryTree (λ p a. EveryTree (λ q b. r ≡ cond (inside && not (same_vars (tree_vars (last_product a)) (tree_vars b))) (Some place) None) s ns j) s ns i

abbrev pub SumsEvenly : List ℕ → List Node → ℕ → Bool → Option ℕ → Type 0
SumsEvenly s ns i inside r = EveryTree (λ at t. r ≡ first_fault (additions at inside t)) s ns i

abbrev pub term_check : List ℕ → Placed → Check
term_check ls t = (t.place, not (all_in ls (tree_vars t.tree)))

abbrev pub TermHas : List ℕ → List Node → ℕ → VarSet → Bool → Type 0
TermHas s ns i left r = EveryTree (λ at t. (ls : List ℕ) → Vars ls → SetOf ls left → r ≡ all_in ls (tree_vars t)) s ns i

-- the node begins at a place
abbrev pub TermsHave : List ℕ → List Node → ℕ → ℕ → VarSet → Option ℕ → Type 0
TermsHave s ns i at left r =
    EveryTree (λ p t. p ≡ at → (ls : List ℕ) → Vars ls → SetOf ls left → r ≡ first_fault (map (term_check ls) (terms_from p t))) s ns i
