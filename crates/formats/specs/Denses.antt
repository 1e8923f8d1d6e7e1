-- The laws of dense levels.
use Rattle.std.specs.Prelude.{◌≡◌, ℕ, zero, suc, ◌+◌, ◌*◌, ◌/◌, ◌%◌, ◌<◌, List, length, slice_index, refl}
use Rattle.std.proofs.Common.{sym, ap, ◌∙◌, arith, mul_comm, div-add-mod'}
use Rattle.std.proofs.lemmas.Nat.{mul-add-lt, div-mul-add, mod-mul-add, div_below, mod_below}
use Rattle.model.specs.Fibers.{Lawful}
use Rattle.model.specs.Formats.{LevelSize, Listed, dense_need, dense_level, dense_children}
use Rattle.formats.specs.Builds.{Built}
use Rattle.formats.specs.Rows.{rows_lawful, rows_includes}

-- a product that is above a number has no factor 0
pub positive : (j f e : ℕ) → j < f * e → 0 < e
positive j f zero h = omega arith
positive j f (suc e) h = omega arith

pub dense_lawful : (s : LevelSize) → Lawful s.extent s.fibers (dense_children s) (dense_level s)
dense_lawful s =
    let e = s.extent in
    let f = s.fibers in
    rows_lawful e f (f * e) (λ _. e) (λ p c. (c, p * e + c)) record {
      ascends = λ p j k _ h _. h;
      within = λ p k _ h. h;
      below = λ p k h i. omega (arith, mul-add-lt p e k f h i, mul_comm e f);
      used = λ j h. let pos = positive j f e h in
          (j / e, j % e, div_below j e f pos h, mod_below j e pos, div-add-mod' j e);
      once = λ p k q m _ hk _ hm e'.
          (sym (div-mul-add p e k hk) ∙ ap (λ (x : ℕ). x / e) e' ∙ div-mul-add q e m hm, sym (mod-mul-add p e k hk) ∙ ap (λ (x : ℕ). x % e) e' ∙ mod-mul-add q e m hm);
    }

pub dense_built : (s : LevelSize) (owners coordinates ws : List ℕ) → Listed s owners coordinates
    → Built (dense_need s) (λ xs. length xs ≡ dense_need s) (λ _. dense_level s) owners coordinates ws ws
dense_built s owners coordinates ws h = record {
  room = omega arith;
  sound = refl;
  held = rows_includes s.fibers (λ _. s.extent) (λ p c. (c, p * s.extent + c)) owners coordinates
      (λ k i. (slice_index coordinates k, h.owned k (omega (arith, h.owners_long)), h.within k (omega (arith, h.owners_long)), refl));
  rest = refl;
}
