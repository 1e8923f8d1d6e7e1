-- What the sum over the docks says in each kind. Assumes nothing.
use Rattle.std.proofs.Common.{◌≡◌, ℕ, zero, suc, ◌+◌, ◌*◌, ◌%◌, ◌^◌, ◌<◌, ◌≤◌, min, Bool, true, false, cond, ◌&&◌, ◌||◌, ◌⊎◌, List, [], ◌∷◌, length, get_or, Decides, count_by, sym, refl, ◌∙◌, subst, inl, inr, arith}
use Rattle.std.proofs.lemmas.List.Sums.{sum_by-cons, count_by-le-length}
use Rattle.std.proofs.lemmas.Bool.{cases_lt, false≢true}
use Rattle.semiring.specs.Kinds.{count, counts, time, times, flags}
use Rattle.docks.specs.Tables.{Entry}
use Rattle.docks.specs.Answers.{runs, counts_once, connects, over_docks, totals, Least}

count_by_cons : (e : Entry) (es : List Entry) → count_by connects (e ∷ es) ≡ cond (connects e) 1 0 + count_by connects es
count_by_cons e es = sum_by-cons (λ x. cond (connects x) 1 0) e es

-- one more dock is counted where both its legs run
count_more : (s t : Bool) (n m : ℕ) → n ≡ m → m + 1 < 2 ^ 32 → ((count ((count (cond s 1 0)).value * (count (cond t 1 0)).value)).value + n) % 2 ^ 32 ≡ cond (s && t) 1 0 + m
count_more true true n m e h = omega arith
count_more true false n m e h = omega arith
count_more false true n m e h = omega arith
count_more false false n m e h = omega arith

pub counted : (es : List Entry) → length es < 2 ^ 32 → (over_docks counts counts_once es).value ≡ count_by connects es
counted [] h = refl
counted (e ∷ es) h =
    count_more (runs e.leg_in) (runs e.leg_out) _ (count_by connects es) (counted es (omega arith)) (omega (arith, count_by-le-length connects es))
    ∙ sym (count_by_cons e es)

any_more : (b r : Bool) (n : ℕ) → Decides r (0 < n) → Decides (b || r) (0 < cond b 1 0 + n)
any_more true r n h = (λ _. omega arith, λ _. refl)
any_more false r n h = (λ t. omega (arith, h.0 t), λ l. h.1 (omega arith))

pub any_connects : (es : List Entry) → Decides (over_docks flags runs es) (0 < count_by connects es)
any_connects [] = (λ t. absurd (false≢true t), λ l. absurd (omega arith))
any_connects (e ∷ es) =
    let P : ℕ → Type 0 = λ n. Decides (over_docks flags runs (e ∷ es)) (0 < n) in
    subst P (sym (count_by_cons e es)) (any_more (connects e) (over_docks flags runs es) (count_by connects es) (any_connects es))

-- the least of a time so far and one more total
abbrev lesser : ℕ → ℕ → ℕ → ℕ
lesser a b v = min (min (min a 4294967295 + min b 4294967295) 4294967295) v

least_below : (a b v : ℕ) (ts : List ℕ) → ((k : ℕ) → k < length ts → v ≤ get_or ts k 0) → (k : ℕ) → k < length ((a + b) ∷ ts) → lesser a b v ≤ get_or ((a + b) ∷ ts) k 0
least_below a b v ts h zero l = omega arith
least_below a b v ts h (suc k) l = omega (arith, h k (omega arith))

abbrev Attained : List ℕ → ℕ → Type 0
Attained ts t = (t ≡ 4294967295) ⊎ ((k : ℕ) × (k < length ts) × (t ≡ get_or ts k 0))

still_attained : (a b v w : ℕ) (ts : List ℕ) → w ≡ v → Attained ts v → Attained ((a + b) ∷ ts) w
still_attained a b v w ts e (inl h) = inl (e ∙ h)
still_attained a b v w ts e (inr h) = inr (suc h.0, omega (arith, h.1), e ∙ h.2)

least_attained : (a b v : ℕ) (ts : List ℕ) → v < 2 ^ 32 → Attained ts v → Attained ((a + b) ∷ ts) (lesser a b v)
least_attained a b v ts short h =
    elim (cases_lt (a + b) v) [ inl l ↦ inr (0, omega arith, omega arith) | inr l ↦ still_attained a b v (lesser a b v) ts (omega arith) h ]

pub least : (es : List Entry) → Least (totals es) (over_docks times time es).value
least [] = (λ k l. absurd (omega arith), inl refl)
least (e ∷ es) =
    (least_below e.leg_in e.leg_out _ (totals es) (least es).0, least_attained e.leg_in e.leg_out _ (totals es) (over_docks times time es).fits (least es).1)
