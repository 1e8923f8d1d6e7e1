-- One more level in the words behind those before it, and the entries' children there.
use Rattle.std.proofs.Common.{◌≡◌, ℕ, ◌+◌, ◌-◌, ◌<◌, ◌≤◌, List, [], ◌++◌, map, length, get_or, take, drop, Some, sym, refl, ap, ◌∙◌, subst, ⊎_elim, arith}
use borrow.Rule.Slice.PartMut.{put_mid}
use Rattle.std.proofs.lemmas.List.{length-map, get_or-map, get_or_past, drop_all, append-nil}
use Rattle.std.proofs.lemmas.Bool.{cases_lt}
use Rattle.model.specs.Fibers.{Level, Lawful, Ascends, coords, fiber, child, coord}
use Rattle.model.specs.Formats.{LevelSize, Listed, Includes}
use Rattle.levels.proofs.Halves.{child_hit}
use Rattle.tensors.specs.Fillings.{picked, Owners}
use Rattle.tensors.proofs.Middles.{mid_front, mid_rest, mid_back}
use Rattle.tensors.proofs.Picks.{picked_has}

-- what words hold after a write to those from `start` on
module _ (start : ℕ) (ws ys : List ℕ) (within : start ≤ length ws) (long : length ys ≡ length ws - start) where
  abbrev size : ℕ
  size = length ws - start

  abbrev after : List ℕ
  after = put_mid start size ws ys

  pub after_front : take start after ≡ take start ws
  after_front = mid_front start size size ws ys refl (omega arith) long

  pub after_rest : drop start after ≡ ys
  after_rest =
      mid_rest start size size ws ys refl (omega arith) long ∙ ap (λ z. ys ++ z) (drop_all (start + size) ws (omega arith)) ∙ append-nil ys

  pub after_back : (want : ℕ) → want ≤ size → drop want ys ≡ drop want (take size (drop start ws)) → drop (start + want) after ≡ drop (start + want) ws
  after_back = mid_back start size size ws ys refl (omega arith) long

-- every fiber of a lawful level ascends: one that is not there is empty
pub lawful_ascends : (e f n : ℕ) (l : Level) → Lawful e f n l → (p : ℕ) → Ascends (coords (fiber l p))
lawful_ascends e f n l w p =
    ⊎_elim
    (λ h. w.ascends p h)
    (λ h. subst (λ x. Ascends (coords x)) (sym (get_or_past l p [] (omega (arith, w.number)))) tt)
    (cases_lt p f)

-- each row has a child in a level that includes what was picked
module _ (d f : ℕ) (os : List ℕ) (css : List (List ℕ)) (w : Owners d f os css) (deep : (k : ℕ) → k < length css → d < length (get_or css k []))
    (l : Level) (ascends : (p : ℕ) → Ascends (coords (fiber l p))) (firsts seconds : List ℕ)
    (a : firsts ≡ map (λ x. x.0) (picked d os css)) (b : seconds ≡ map (λ x. x.1) (picked d os css)) (includes : Includes firsts seconds l) where
  pub row_held : (k : ℕ) → k < length css → (j : ℕ) × (child (fiber l (get_or os k 0)) (get_or (get_or css k []) d 0) ≡ Some j)
  row_held k h =
      let p = picked_has d f os css w deep k h in
      let own : get_or firsts p.0 0 ≡ get_or os k 0 = ap (λ x. get_or x p.0 0) a ∙ get_or-map (λ x. x.0) (picked d os css) p.0 (0, 0) 0 p.1 ∙ ap (λ x. x.0) p.2 in
      let at : get_or seconds p.0 0 ≡ get_or (get_or css k []) d 0 = ap (λ x. get_or x p.0 0) b ∙ get_or-map (λ x. x.1) (picked d os css) p.0 (0, 0) 0 p.1 ∙ ap (λ x. x.1) p.2 in
      let i = includes p.0 (omega (arith, p.1, ap length a, length-map (picked d os css) (λ x. x.0))) in
      let q = get_or os k 0 in
      let long : i.0 < length (fiber l q) = subst (λ r. i.0 < length (fiber l r)) own i.1 in
      let here : coord l q i.0 ≡ get_or (get_or css k []) d 0 = ap (λ r. coord l r i.0) (sym own) ∙ i.2 ∙ at in
      ((get_or (fiber l q) i.0 (0, 0)).1, child_hit (fiber l q) (get_or (get_or css k []) d 0) i.0 (ascends q) long here)

pub listed_by : (s : LevelSize) (xs ys us vs : List ℕ) → xs ≡ us → ys ≡ vs → Listed s us vs → Listed s xs ys
listed_by s xs ys us vs a b l = subst (λ z. Listed s z ys) (sym a) (subst (λ z. Listed s us z) (sym b) l)
