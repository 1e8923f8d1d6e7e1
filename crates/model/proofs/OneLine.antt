-- A text is that of one line only: ";" and "=" stand nowhere else, so they cut it. Assumes nothing.
use Rattle.std.proofs.Common.{◌≡◌, ℕ, ◌<◌, true, ◌&&◌, leb, List, [], ◌∷◌, ◌++◌, refl, ap, arith}
use Rattle.std.specs.List.{AllByRecursion}
use Rattle.std.proofs.ByRecursion.{All-append}
use Rattle.std.proofs.lemmas.Bool.{and_parts, leb-true}
use Rattle.model.specs.Grammar.{Tree, access, group, times, plus, Syntax, commas, names, args, text, Vars, Grammatical, OneLine}
use Rattle.model.proofs.OneTree.{one_tree}

-- a byte that is neither ";" nor "="
abbrev pub Inner : ℕ → Type 0
Inner b = (b ≡ 59 → ⊥) × (b ≡ 61 → ⊥)

inner_from : (low b high : ℕ) → 61 < low → (leb low b && leb b high) ≡ true → Inner b
inner_from low b high h e = let at = leb-true low b (and_parts (leb low b) (leb b high) e).0 in (λ x. omega arith, λ x. omega arith)

inner_commas : (vs : List ℕ) → Vars vs → AllByRecursion Inner (commas vs)
inner_commas [] g = tt
inner_commas (v ∷ vs) g = ((λ e. omega arith, λ e. omega arith), (inner_from 97 v 122 (omega arith) g.0, inner_commas vs g.1))

inner_names : (vs : List ℕ) → Vars vs → AllByRecursion Inner (names vs)
inner_names [] g = tt
inner_names (v ∷ vs) g = (inner_from 97 v 122 (omega arith) g.0, inner_commas vs g.1)

inner_closed : (bs : List ℕ) → AllByRecursion Inner bs → AllByRecursion Inner ((40 ∷ bs) ++ (41 ∷ []))
inner_closed bs h = All-append Inner (40 ∷ bs) (41 ∷ []) ((λ e. omega arith, λ e. omega arith), h) ((λ e. omega arith, λ e. omega arith), tt)

pub inner_args : (vs : List ℕ) → Vars vs → AllByRecursion Inner (args vs)
inner_args vs g = inner_closed (names vs) (inner_names vs g)

pub inner_text : (t : Tree) → Grammatical t → AllByRecursion Inner (text t)
inner_text (access l vs) g = (inner_from 65 l 72 (omega arith) g.0, inner_args vs g.1)
inner_text (group t) g = inner_closed (text t) (inner_text t g)
inner_text (times a b) g = All-append Inner (text a) (42 ∷ text b) (inner_text a g.0) ((λ e. omega arith, λ e. omega arith), inner_text b g.2)
inner_text (plus a b) g = All-append Inner (text a) (43 ∷ text b) (inner_text a g.0) ((λ e. omega arith, λ e. omega arith), inner_text b g.1)

-- two texts cut at a byte that stands in neither front
record SameParts (v w v_rest w_rest : List ℕ) : Type 0 where
  front : v ≡ w
  rest : v_rest ≡ w_rest

cut : (b : ℕ) (P : ℕ → Type 0) → (P b → ⊥) → (v w x y : List ℕ) → AllByRecursion P v → AllByRecursion P w → v ++ (b ∷ x) ≡ w ++ (b ∷ y) → SameParts v w x y
cut b P out [] [] x y g h e = record { front = refl; rest = cc }
cut b P out [] (d ∷ w) x y g h e = let at : b ≡ d = cc in absurd (out (rw at h.0))
cut b P out (c ∷ v) [] x y g h e = let at : c ≡ b = cc in absurd (out (rw (← at) g.0))
cut b P out (c ∷ v) (d ∷ w) x y g h e =
    let at : c ≡ d = cc in
    let tails : v ++ (b ∷ x) ≡ w ++ (b ∷ y) = cc in
    let r = cut b P out v w x y g.1 h.1 tails in
    let fronts = r.front in
    record { front = cc; rest = r.rest }

abbrev vars_of : Tree → List ℕ
vars_of (access l vs) = vs
vars_of (group t) = []
vars_of (times a b) = []
vars_of (plus a b) = []

one_args : (vs ws : List ℕ) → Vars vs → Vars ws → args vs ≡ args ws → vs ≡ ws
one_args vs ws g h e = ap vars_of (one_tree (access 65 vs) (access 65 ws) (refl, g) (refl, h) (ap (λ x. 65 ∷ x) e))

one_names : (vs ws : List ℕ) → Vars vs → Vars ws → names vs ≡ names ws → vs ≡ ws
one_names vs ws g h e = one_args vs ws g h (ap (λ x. (40 ∷ x) ++ (41 ∷ [])) e)

same_parts : (v w x y : List ℕ) (t u : Tree) → v ≡ w → t ≡ u → x ≡ y → ◌≡◌ {A = Syntax} (record { left = v; body = t; order = x }) (record { left = w; body = u; order = y })
same_parts v w x y t u p q r = cc

pub one_line : OneLine
one_line l m g h e =
    let whole : args l.left ++ (61 ∷ (text l.body ++ (59 ∷ names l.order))) ≡ args m.left ++ (61 ∷ (text m.body ++ (59 ∷ names m.order))) = cc in
    let head = cut 61 Inner (λ i. i.1 refl) (args l.left) (args m.left) (text l.body ++ (59 ∷ names l.order)) (text m.body ++ (59 ∷ names m.order)) (inner_args l.left g.left) (inner_args m.left h.left) whole in
    let tail = cut 59 Inner (λ i. i.0 refl) (text l.body) (text m.body) (names l.order) (names m.order) (inner_text l.body g.body) (inner_text m.body h.body) head.rest in
    let left = one_args l.left m.left g.left h.left head.front in
    let body = one_tree l.body m.body g.body h.body tail.front in
    let order = one_names l.order m.order g.order h.order tail.rest in
    same_parts l.left m.left l.order m.order l.body m.body left body order
