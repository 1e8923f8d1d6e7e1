-- The parts of an area that a write into one part leaves. Assumes nothing.
use Rattle.std.proofs.Common.{◌≡◌, ℕ, ◌+◌, ◌-◌, ◌*◌, ◌<◌, ◌≤◌, ◌⊎◌, List, take, drop, sym, ap, ◌∙◌, inl, inr, mul-le-mul_right, add-mul, arith}
use Rattle.std.proofs.lemmas.List.{take-take, drop-take, drop-drop}
use Rattle.std.proofs.lemmas.Bool.{cases_order}
use Rattle.slots.specs.Layouts.{part}

-- a later part begins where an earlier one has ended
parts_apart : (size m n : ℕ) → m < n → m * size + size ≤ n * size
parts_apart size m n h = omega (arith, mul-le-mul_right {m = m + 1} {n = n} size (omega arith), add-mul m 1 size)

module _ {X : Type 0} (slot size used : ℕ) (fits : used ≤ size) (xs ys : List X)
    (before : take (slot * size) ys ≡ take (slot * size) xs) (behind : drop (slot * size + used) ys ≡ drop (slot * size + used) xs) where
  earlier : (n : ℕ) → n < slot → part n size ys ≡ part n size xs
  earlier n h =
      let le = parts_apart size n slot h in
      let within : (zs : List X) → part n size zs ≡ drop (n * size) (take (n * size + size) (take (slot * size) zs)) =
      λ zs. sym (drop-take (n * size) size zs) ∙ ap (drop (n * size)) (sym (take-take (n * size + size) (slot * size) zs le)) in
      within ys ∙ ap (λ (zs : List X). drop (n * size) (take (n * size + size) zs)) before ∙ sym (within xs)

  later : (n : ℕ) → slot < n → part n size ys ≡ part n size xs
  later n h =
      let le = parts_apart size slot n h in
      let k : ℕ = n * size - (slot * size + used) in
      let e : n * size ≡ slot * size + used + k = omega arith in
      let beyond : (zs : List X) → part n size zs ≡ take size (drop k (drop (slot * size + used) zs)) =
      λ zs. ap (λ (i : ℕ). take size (drop i zs)) e ∙ ap (take size) (sym (drop-drop k (slot * size + used) zs)) in
      beyond ys ∙ ap (λ (zs : List X). take size (drop k zs)) behind ∙ sym (beyond xs)

  -- every part but the one of the slot
  pub other_part : (n : ℕ) → (slot ≡ n → ⊥) → part n size ys ≡ part n size xs
  other_part n ne = go (cases_order slot n)
    where
      go : (slot ≡ n) ⊎ ((slot < n) ⊎ (n < slot)) → part n size ys ≡ part n size xs
      go (inl e) = absurd (ne e)
      go (inr (inl h)) = later n h
      go (inr (inr h)) = earlier n h
