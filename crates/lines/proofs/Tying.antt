-- A tree whose text stands at a place of s is tied to s there. Assumes nothing.
use Rattle.std.proofs.Common.{◌≡◌, ℕ, ◌+◌, ◌-◌, ◌*◌, ◌≤◌, List, [], ◌∷◌, ◌++◌, map, length, get_or, drop, sym, refl, ap, ◌∙◌, arith, length-append, length-drop}
use Rattle.std.proofs.lemmas.List.{append_assoc, map-append, get_or-drop, drop-drop, drop_at}
use Rattle.model.specs.Grammar.{Tree, access, group, times, plus, commas, names, text, Vars, Grammatical}
use Rattle.model.specs.Reading.{PlacedAccess, accesses_from}
use Rattle.reader.specs.Lists.{listed}
use Rattle.reader.proofs.Having.{vars_inside}
use Rattle.lines.specs.Tables.{entry, stood_for}
use Rattle.lines.specs.Ties.{Tied}

module _ (s : List ℕ) (q : ℕ) where
  -- what stands behind w
  pub behind : (w r : List ℕ) (p : ℕ) → q + length w ≡ p → drop q s ≡ w ++ r → drop p s ≡ r
  behind w r p e h = ap (λ x. drop x s) (sym e) ∙ sym (drop-drop (length w) q s) ∙ ap (drop (length w)) h ∙ drop_at w r (length w) refl

  pub first_there : (x : ℕ) (r : List ℕ) → drop q s ≡ x ∷ r → get_or s q 0 ≡ x
  first_there x r h =
      let e : q ≡ q + 0 = omega arith in
      ap (λ y. get_or s y 0) e ∙ sym (get_or-drop q s 0 0) ∙ ap (λ l. get_or l 0 0) h

  pub long_there : (w r : List ℕ) → drop q s ≡ w ++ r → 1 ≤ length w → q + length w ≤ length s
  long_there w r h some = omega (arith, sym (length-drop q s) ∙ ap length h ∙ length-append w r)

listed_commas : (s : List ℕ) (q : ℕ) (vs r : List ℕ) → drop q s ≡ commas vs ++ r → listed s (q + 1) (length vs) ≡ vs
listed_commas s q [] r h = refl
listed_commas s q (v ∷ vs) r h =
    let on : drop (q + 1) s ≡ v ∷ (commas vs ++ r) = behind s q (44 ∷ []) (v ∷ (commas vs ++ r)) (q + 1) refl h in
    let far : drop (q + 2) s ≡ commas vs ++ r = behind s q (44 ∷ (v ∷ [])) (commas vs ++ r) (q + 2) refl h in
    let place : q + 1 + 2 ≡ q + 2 + 1 = omega arith in
    ap (λ x. x ∷ listed s (q + 1 + 2) (length vs)) (first_there s (q + 1) v (commas vs ++ r) on)
    ∙ ap (λ x. v ∷ listed s x (length vs)) place ∙ ap (λ l. v ∷ l) (listed_commas s (q + 2) vs r far)

pub listed_names : (s : List ℕ) (q : ℕ) (vs r : List ℕ) → drop q s ≡ names vs ++ r → listed s q (length vs) ≡ vs
listed_names s q [] r h = refl
listed_names s q (v ∷ vs) r h =
    let on : drop (q + 1) s ≡ commas vs ++ r = behind s q (v ∷ []) (commas vs ++ r) (q + 1) refl h in
    let place : q + 2 ≡ q + 1 + 1 = omega arith in
    ap (λ x. x ∷ listed s (q + 2) (length vs)) (first_there s q v (commas vs ++ r) h)
    ∙ ap (λ x. v ∷ listed s x (length vs)) place ∙ ap (λ l. v ∷ l) (listed_commas s (q + 1) vs r on)

commas_length : (vs : List ℕ) → length (commas vs) ≡ 2 * length vs
commas_length [] = refl
commas_length (v ∷ vs) = let h = commas_length vs in omega arith

pub names_length : (vs : List ℕ) → length (names vs) ≡ 2 * length vs - 1
names_length [] = refl
names_length (v ∷ vs) = let h = commas_length vs in omega arith

tied_access : (s : List ℕ) (at l : ℕ) (vs r : List ℕ) → Vars vs → drop at s ≡ text (access l vs) ++ r → Tied s at (access l vs)
tied_access s at l vs r vars h =
    let on : drop (at + 2) s ≡ names vs ++ (41 ∷ r) =
    behind s at (l ∷ (40 ∷ [])) (names vs ++ (41 ∷ r)) (at + 2) refl (h ∙ ap (λ w. l ∷ (40 ∷ w)) (append_assoc (names vs) (41 ∷ []) r)) in
    let far = long_there s at (text (access l vs)) r h (simp length-append (omega arith)) in
    let many = names_length vs in
    (listed_names s (at + 2) vs (41 ∷ r) on, omega (arith, simp length-append at far), vars)

module _ (s : List ℕ) where
  module _ (sep : ℕ) (a b : Tree) (at : ℕ) (r : List ℕ) (h : drop at s ≡ (text a ++ (sep ∷ text b)) ++ r) where
    pub left_there : drop at s ≡ text a ++ (sep ∷ (text b ++ r))
    left_there = h ∙ append_assoc (text a) (sep ∷ text b) r

    pub right_there : drop (at + length (text a) + 1) s ≡ text b ++ r
    right_there =
        behind s (at + length (text a)) (sep ∷ []) (text b ++ r) (at + length (text a) + 1) refl (behind s at (text a) (sep ∷ (text b ++ r)) (at + length (text a)) refl left_there)

  pub tied_from : (t : Tree) (at : ℕ) (r : List ℕ) → Grammatical t → drop at s ≡ text t ++ r → Tied s at t
  tied_from (access l vs) at r g h = tied_access s at l vs r g.1 h
  tied_from (group t) at r g h = tied_from t (at + 1) (41 ∷ r) g (behind s at (40 ∷ []) (text t ++ (41 ∷ r)) (at + 1) refl (h ∙ ap (λ w. 40 ∷ w) (append_assoc (text t) (41 ∷ []) r)))
  tied_from (times a b) at r g h = (tied_from a at (42 ∷ (text b ++ r)) g.0 (left_there 42 a b at r h), tied_from b (at + length (text a) + 1) r g.2 (right_there 42 a b at r h))
  tied_from (plus a b) at r g h = (tied_from a at (43 ∷ (text b ++ r)) g.0 (left_there 43 a b at r h), tied_from b (at + length (text a) + 1) r g.1 (right_there 43 a b at r h))

  both_stand : (xs ys : List PlacedAccess) → map (stood_for s) (map entry xs) ≡ xs → map (stood_for s) (map entry ys) ≡ ys → map (stood_for s) (map entry (xs ++ ys)) ≡ xs ++ ys
  both_stand xs ys g h =
      ap (map (stood_for s)) (map-append entry xs ys) ∙ map-append (stood_for s) (map entry xs) (map entry ys) ∙ ap (λ l. l ++ map (stood_for s) (map entry ys)) g ∙ ap (λ l. xs ++ l) h

  -- the entries of a tied tree stand for its accesses
  pub entries_stand : (t : Tree) (at : ℕ) → Tied s at t → map (stood_for s) (map entry (accesses_from at t)) ≡ accesses_from at t
  entries_stand (access l vs) at h = ap (λ us. record { place = at; of = record { slot = l - 65; vars = us } } ∷ []) (vars_inside s (record { place = at + 2; count = length vs }) h.1 ∙ h.0)
  entries_stand (group t) at h = entries_stand t (at + 1) h
  entries_stand (times a b) at h = both_stand (accesses_from at a) (accesses_from (at + length (text a) + 1) b) (entries_stand a at h.0) (entries_stand b (at + length (text a) + 1) h.1)
  entries_stand (plus a b) at h = both_stand (accesses_from at a) (accesses_from (at + length (text a) + 1) b) (entries_stand a at h.0) (entries_stand b (at + length (text a) + 1) h.1)
