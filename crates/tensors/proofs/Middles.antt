-- What a list holds after a write to its k places from a on.
use Rattle.std.proofs.Common.{◌≡◌, ℕ, ◌+◌, ◌≤◌, List, ◌++◌, length, take, drop, sym, ap, ◌∙◌, ap₂, arith}
use borrow.Rule.Slice.PartMut.{put_mid, post_of}
use Rattle.std.proofs.lemmas.List.{length-drop, length-take-le, drop_at, drop-drop, take-append-le, drop-append-le, take-append-drop}
use Rattle.std.proofs.lemmas.Slice.{take-put_mid_below}

module _ {X : Type 0} (a m k : ℕ) (xs ys : List X) (is : m ≡ k) (fits : a + k ≤ length xs) (long : length ys ≡ k) where
  abbrev after : List X
  after = put_mid a m xs ys

  pub mid_front : take a after ≡ take a xs
  mid_front = take-put_mid_below a m xs ys a (omega arith) (omega arith)

  pub mid_rest : drop a after ≡ ys ++ drop (a + k) xs
  mid_rest =
      drop_at (take a xs) (ys ++ post_of a m xs) a (length-take-le a xs (omega arith))
      ∙ ap (λ z. ys ++ z) (drop-drop m a xs ∙ ap (λ n. drop (a + n) xs) is)

  pub mid_part : (n : ℕ) → n ≤ k → take n (drop a after) ≡ take n ys
  mid_part n h = ap (take n) mid_rest ∙ take-append-le n ys (drop (a + k) xs) (omega arith)

  -- what the write did not change in the part, and all behind it
  pub mid_back : (n : ℕ) → n ≤ k → drop n ys ≡ drop n (take k (drop a xs)) → drop (a + n) after ≡ drop (a + n) xs
  mid_back n h e =
      let inner : k ≤ length (drop a xs) = omega (arith, length-drop a xs) in
      sym (drop-drop n a after) ∙ ap (drop n) mid_rest ∙ drop-append-le n ys (drop (a + k) xs) (omega arith)
      ∙ ap₂ (λ u v. u ++ v) e (sym (drop-drop k a xs))
      ∙ sym (drop-append-le n (take k (drop a xs)) (drop k (drop a xs)) (omega (arith, length-take-le k (drop a xs) inner)))
      ∙ ap (drop n) (take-append-drop k (drop a xs)) ∙ drop-drop n a xs
