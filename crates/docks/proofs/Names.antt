-- Names of one text are the same: what fills their arrays behind it is always the same too. Assumes nothing.
use Rattle.std.proofs.Common.{◌≡◌, ℕ, ◌-◌, ◌≤◌, List, ◌++◌, length, take, replicate, sym, subst, ap, ap₂, ◌∙◌, arith}
use Rattle.std.proofs.lemmas.List.{length-take-le}
use Rattle.std.proofs.Math.Nat.{ℕ_set}
use Rattle.std.proofs.Math.Bridge.{le_prop}
use mathlib.Core.List.{is_set}
use Rattle.docks.specs.Views.{name_bytes}
use Rattle.docks.specs.declared.name.Name.{Name}

-- Whatever proofs it holds of itself, a name is its array and its length.
module _ (xs : List ℕ) (n : ℕ) (p q : n ≤ 16) (r s : length xs ≡ 16) (t u : xs ≡ take n xs ++ replicate (16 - n) 0) where
  made : ◌≡◌ {A = Name} (record { bytes = xs; len = n; short = p; room = r; filled = t }) (record { bytes = xs; len = n; short = q; room = s; filled = u })
  made =
      let P : n ≤ 16 → Type 0 = λ h. ◌≡◌ {A = Name} (record { bytes = xs; len = n; short = p; room = r; filled = t }) (record { bytes = xs; len = n; short = h; room = s; filled = u }) in
      let Q : length xs ≡ 16 → Type 0 = λ h. ◌≡◌ {A = Name} (record { bytes = xs; len = n; short = p; room = r; filled = t }) (record { bytes = xs; len = n; short = p; room = h; filled = u }) in
      subst P (le_prop p q) (subst Q (ℕ_set _ _ r s) (ap (λ w. record { bytes = xs; len = n; short = p; room = r; filled = w }) (is_set ℕ_set _ _ t u)))

module _ (a b : Name) where
  of_fields : a.len ≡ b.len → a.bytes ≡ b.bytes → a ≡ b
  of_fields l e =
      let R : List ℕ → ℕ → Type 0 = λ ys m. (p : m ≤ 16) (r : length ys ≡ 16) (t : ys ≡ take m ys ++ replicate (16 - m) 0) → ◌≡◌ {A = Name} a (record { bytes = ys; len = m; short = p; room = r; filled = t }) in
      let own : R a.bytes a.len = λ p r t. made a.bytes a.len a.short p a.room r a.filled t in
      (subst (λ m. R b.bytes m) l (subst (λ ys. R ys a.len) e own)) b.short b.room b.filled

  pub same_name : name_bytes a ≡ name_bytes b → a ≡ b
  same_name e =
      let la = length-take-le a.len a.bytes (omega (arith, a.short, a.room)) in
      let lb = length-take-le b.len b.bytes (omega (arith, b.short, b.room)) in
      let l : a.len ≡ b.len = sym la ∙ ap length e ∙ lb in
      of_fields l (a.filled ∙ ap₂ (λ t n. t ++ replicate (16 - n) 0) e l ∙ sym b.filled)
