-- What an accepted STORE keeps small: extents, the fibers of every level, and words and positions within the slot. Assumes nothing.
use Rattle.std.proofs.Common.{◌≡◌, ℕ, suc, ◌<◌, ◌≤◌, false, ltb, List, [], ◌∷◌, map, length, get_or, take, drop, None, sym, refl, ap, ◌∙◌, arith, lit≤}
use Rattle.std.specs.List.{AllByRecursion}
use Rattle.std.proofs.ByRecursion.{All-from_get_or}
use Rattle.std.proofs.lemmas.Bool.{ltb-false, or_parts}
use Rattle.model.specs.Fibers.{Level, Lawful}
use Rattle.model.specs.Formats.{LevelSize}
use Rattle.model.specs.Calls.{Request}
use Rattle.model.specs.Stores.{Sizes, FormatRules, some_pass, tensor_of, coordinates_of, fronts, level_sizes, sizes_of, positions_used, store_fault}
use Rattle.slots.specs.Layouts.{needed, levels_on, Kept}
use Rattle.plans.specs.Rooms.{crowded}
use Rattle.plans.specs.Rows.{rows_of}
use Rattle.plans.proofs.Refusals.{accepts, its_sizes, roomy}

-- the extents of the levels are those that were asked for
sizes_extents : (rules : FormatRules) (css : List (List ℕ)) (n f : ℕ) (es fs : List ℕ) → length fs ≡ length es → map (λ l. l.1.extent) (level_sizes rules css n f es fs) ≡ es
sizes_extents rules css n f [] fs h = refl
sizes_extents rules css n f (e ∷ es) [] h = absurd (omega arith)
sizes_extents rules css n f (e ∷ es) (k ∷ fs) h = ap (λ (x : List ℕ). e ∷ x) (sizes_extents rules css (suc n) _ es fs (omega arith))

extents_few : (es : List ℕ) → ((i : ℕ) → i < length es → get_or es i 0 ≤ 4096) → AllByRecursion (λ e. e ≤ 65536) es
extents_few es h = All-from_get_or (λ e. e ≤ 65536) es 0 (λ i l. omega (arith, h i l))

-- where no level has many children, no level has many fibers
few_fibers :
    (b : ℕ) (rules : FormatRules) (css : List (List ℕ)) (n f : ℕ) (es fs : List ℕ) → f ≤ b
    → some_pass (λ l. ltb b (rules.children l.0 l.1)) (level_sizes rules css n f es fs) ≡ false
    → AllByRecursion (λ l. l.1.fibers ≤ b) (level_sizes rules css n f es fs)
few_fibers b rules css n f [] fs l h = tt
few_fibers b rules css n f (e ∷ es) [] l h = tt
few_fibers b rules css n f (e ∷ es) (k ∷ fs) l h =
    let s : LevelSize = record { extent = e; fibers = f; entries = length (fronts (suc n) css) } in
    let p = or_parts (ltb b (rules.children k s)) _ h in
    (l, few_fibers b rules css (suc n) (rules.children k s) es fs (ltb-false b (rules.children k s) p.0) p.1)

-- the words of BUILD mean as many fibers as the size says
pub built_fibers :
    (b : ℕ) (rules : FormatRules) (meaning : ℕ → LevelSize → List ℕ → Level) (kept : ℕ → LevelSize → List ℕ → Type 0)
    → ((i : ℕ) (s : LevelSize) (ws : List ℕ) → kept i s ws → Lawful s.extent s.fibers (rules.children i s) (meaning i s ws))
    → (ls : List (ℕ × LevelSize)) (ws : List ℕ) → AllByRecursion (λ l. l.1.fibers ≤ b) ls → Kept rules kept ls ws → AllByRecursion (λ l. length l ≤ b) (levels_on rules meaning ls ws)
built_fibers b rules meaning kept lawful [] ws few sound = tt
built_fibers b rules meaning kept lawful (l ∷ ls) ws few sound =
    let w = take (rules.need l.0 l.1) ws in (
      omega (arith, (lawful l.0 l.1 w sound.0).number, few.0),
      built_fibers b rules meaning kept lawful ls (drop (rules.need l.0 l.1) ws) few.1 sound.1,
    )

pub record Bounded {V : Type 0} (z : Sizes) (rules : FormatRules) (q : Request V) : Type 0 where
  pub in_range : q.slot ≤ 7
  pub extents : map (λ l. l.1.extent) (sizes_of rules q) ≡ q.extents
  pub narrow : AllByRecursion (λ e. e ≤ 65536) q.extents
  pub few : AllByRecursion (λ l. l.1.fibers ≤ 65536) (sizes_of rules q)
  pub words : needed rules (sizes_of rules q) ≤ z.level_words
  pub positions : positions_used rules q ≤ z.positions

pub bounded : {V : Type 0} (z : Sizes) (rules : FormatRules) (q : Request V) → store_fault z rules q ≡ None → Bounded z rules q
bounded z rules q h =
    let n = length q.values in
    let a = accepts z rules q.slot q.rank q.extents q.formats q.coordinates q.values n refl h in
    let are : sizes_of rules q ≡ level_sizes rules (rows_of q.rank n q.coordinates) 0 1 q.extents q.formats =
    its_sizes z rules q.slot q.rank q.extents q.formats q.coordinates q.values n refl in
    let fits : crowded z.level_words z.positions rules 0 1 (sizes_of rules q) ≡ false =
    ap (crowded z.level_words z.positions rules 0 1) are ∙ a.fits in
    let room = roomy z.level_words z.positions rules (sizes_of rules q) fits in
    let few : some_pass (λ l. ltb 65536 (rules.children l.0 l.1)) (sizes_of rules q) ≡ false = (or_parts _ _ (or_parts _ _ fits).1).0 in
    record {
      in_range = a.in_range;
      extents = sizes_extents rules (coordinates_of (tensor_of q)) 0 1 q.extents q.formats (a.shape.formats ∙ sym a.shape.extents);
      narrow = extents_few q.extents a.shape.narrow;
      few = few_fibers 65536 rules (coordinates_of (tensor_of q)) 0 1 q.extents q.formats (lit≤ tt) few;
      words = room.0;
      positions = room.1;
    }
