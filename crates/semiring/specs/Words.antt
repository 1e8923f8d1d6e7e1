-- Words with the fact that they fit: equal where their numbers are. Assumes nothing.
use Rattle.std.specs.Prelude.{◌≡◌, ℕ, ◌^◌, ◌<◌}
use Rattle.std.proofs.Common.{ap, subst}
use Rattle.std.proofs.Math.Bridge.{le_prop}
use Rattle.semiring.specs.declared.count.Count.{Count}
use Rattle.semiring.specs.declared.time.Time.{Time}

same : {A : Type 0} (make : (n : ℕ) → n < 2 ^ 32 → A) {m n : ℕ} (p : m < 2 ^ 32) (q : n < 2 ^ 32) → m ≡ n → make m p ≡ make n q
same {A} make {m} p q e =
    let P : ℕ → Type 0 = λ k. (h : k < 2 ^ 32) → make m p ≡ make k h in subst P e (λ h. ap (make m) (le_prop p h)) q

pub count_is : (x y : Count) → x.value ≡ y.value → x ≡ y
count_is x y e = same {A = Count} (λ n h. record { value = n; fits = h }) x.fits y.fits e

pub time_is : (x y : Time) → x.value ≡ y.value → x ≡ y
time_is x y e = same {A = Time} (λ n h. record { value = n; fits = h }) x.fits y.fits e
