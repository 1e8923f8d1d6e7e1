-- Sizes that pass are in range, and the areas are long enough for them. Assumes nothing.
use Rattle.std.proofs.Common.{◌≡◌, ℕ, ◌*◌, ◌<◌, ◌≤◌, Bool, true, false, ◌||◌, eqb, ltb, refl, true≢false, arith}
use Rattle.std.proofs.lemmas.Bool.{eqb-false, ltb-false}
use Rattle.model.specs.Stores.{Sizes, AreaLengths, out_of_range, wrong_sizes}

neither : (a b : Bool) → (a || b) ≡ false → (a ≡ false) × (b ≡ false)
neither true b h = absurd (true≢false h)
neither false b h = (refl, h)

in_range : (most n : ℕ) → out_of_range most n ≡ false → (0 < n) × (n ≤ most)
in_range most n h =
    let p = neither (eqb n 0) (ltb most n) h in
    let ne = eqb-false n 0 p.0 in
    let le = ltb-false most n p.1 in
    (omega (arith, ne), le)

pub record Right (z : Sizes) (a : AreaLengths) : Type 0 where
  pub positions : (0 < z.positions) × (z.positions ≤ 4096)
  pub level_words : (0 < z.level_words) × (z.level_words ≤ 8192)
  pub stream_words : (0 < z.stream_words) × (z.stream_words ≤ 1048576)
  pub stream_values : (0 < z.stream_values) × (z.stream_values ≤ 1048576)
  pub places : (0 < z.places) × (z.places ≤ 4096)
  pub slot_area : 8 * z.positions ≤ a.slot_values
  pub level_area : 8 * z.level_words ≤ a.level_words
  pub words_area : z.stream_words ≤ a.stream_words
  pub values_area : z.stream_values ≤ a.stream_values
  pub keys_area : z.places ≤ a.keys
  pub sums_area : z.places ≤ a.key_values

pub right : (z : Sizes) (a : AreaLengths) → wrong_sizes z a ≡ false → Right z a
right z a h =
    let p1 = neither _ _ h in
    let p2 = neither _ _ p1.1 in
    let p3 = neither _ _ p2.1 in
    let p4 = neither _ _ p3.1 in
    let p5 = neither _ _ p4.1 in
    let p6 = neither _ _ p5.1 in
    let p7 = neither _ _ p6.1 in
    let p8 = neither _ _ p7.1 in
    let p9 = neither _ _ p8.1 in
    let p10 = neither _ _ p9.1 in
    record {
      positions = in_range 4096 z.positions p1.0;
      level_words = in_range 8192 z.level_words p2.0;
      stream_words = in_range 1048576 z.stream_words p3.0;
      stream_values = in_range 1048576 z.stream_values p4.0;
      places = in_range 4096 z.places p5.0;
      slot_area = ltb-false a.slot_values (8 * z.positions) p6.0;
      level_area = ltb-false a.level_words (8 * z.level_words) p7.0;
      words_area = ltb-false a.stream_words z.stream_words p8.0;
      values_area = ltb-false a.stream_values z.stream_values p9.0;
      keys_area = ltb-false a.keys z.places p10.0;
      sums_area = ltb-false a.key_values z.places p10.1;
    }
