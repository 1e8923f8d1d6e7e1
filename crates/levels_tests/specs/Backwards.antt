-- The laws of a level that numbers its children backwards.
use Rattle.std.specs.Prelude.{◌≡◌, ℕ, ◌+◌, ◌-◌, ◌*◌, ◌/◌, ◌%◌, ◌<◌}
use Rattle.std.proofs.Common.{sym, ap, ◌∙◌, arith, mul_comm, div-add-mod'}
use Rattle.std.proofs.lemmas.Nat.{mul-add-lt, div-mul-add, mod-mul-add, div_below, mod_below}
use Rattle.model.specs.Fibers.{Lawful}
use Rattle.model.specs.Formats.{LevelSize, dense_children}
use Rattle.formats.specs.Denses.{positive}
use Rattle.formats.specs.Rows.{rows_lawful}
use Rattle.levels_tests.specs.Mirrors.{mirrored_level}

pub mirrored_lawful : (s : LevelSize) → Lawful s.extent s.fibers (dense_children s) (mirrored_level s)
mirrored_lawful s =
    let e = s.extent in
    let f = s.fibers in
    let in' : (p k : ℕ) → p < f → k < e → p * e + k < f * e = λ p k h i. omega (arith, mul-add-lt p e k f h i, mul_comm e f) in
    rows_lawful e f (f * e) (λ _. e) (λ p c. (c, f * e - (p * e + c) - 1)) record {
      ascends = λ p j k _ h _. h;
      within = λ p k _ h. h;
      below = λ p k h i. omega (arith, in' p k h i);
      used = λ j h.
          let i = f * e - j - 1 in
          let pos = positive j f e h in
          (i / e, i % e, div_below i e f pos (omega arith), mod_below i e pos, omega (arith, div-add-mod' i e));
      once = λ p k q m hp hk hq hm e'.
          let same : p * e + k ≡ q * e + m = omega (arith, in' p k hp hk, in' q m hq hm) in
          (sym (div-mul-add p e k hk) ∙ ap (λ (x : ℕ). x / e) same ∙ div-mul-add q e m hm, sym (mod-mul-add p e k hk) ∙ ap (λ (x : ℕ). x % e) same ∙ mod-mul-add q e m hm);
    }
