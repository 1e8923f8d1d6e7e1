-- Commands that fit make streams of small payloads and small depths. Assumes nothing.
use Rattle.std.proofs.Common.{◌≡◌, ℕ, zero, suc, ◌+◌, ◌<◌, Bool, true, false, cond, eqb, List, [], ◌∷◌, ◌++◌, map, length, get_or, Some, None, Option, sym, ap, subst, arith, length-append}
use Rattle.std.specs.List.{AllByRecursion}
use Rattle.std.proofs.ByRecursion.{All-append, All-get_or, All-weaker}
use Rattle.model.specs.Semirings.{Algebra, zipped}
use Rattle.model.specs.Fibers.{fiber_at}
use Rattle.model.specs.Tensors.{Storage}
use Rattle.model.specs.Trees.{Tree, each, beside}
use Rattle.model.specs.Streams.{Stream, coordinates, references, values}
use Rattle.model.specs.Commands.{Command, ROOT, SCAN, MEET, JOIN, ALIGN, REPEAT, LOAD, MUL, ADD, SUM, WRITE}
use Rattle.model.specs.Blocks.{coordinate_fibers, reference_fibers, reference_tree, value_tree, value_fibers, in_both, in_either, standing, merged, aligned, repeated}
use Rattle.model.specs.Running.{State, nothing_yet, nth_stream, nth_level, outputs, step, run}
use Rattle.model.specs.Shapes.{Every, Made, Fits, AllFit}
use Rattle.model.specs.Payloads.{depth_of, ReferenceBelow, PayloadsBelow, LevelsBelow, RunsBounded}
use Rattle.model.proofs.MergedLists.{all_both, all_either}

-- every leaf of an image, and of two trees side by side
all_images : {A B : Type 0} (P : A → Type 0) (Q : B → Type 0) (f : A → B) → ((a : A) → P a → Q (f a)) → (xs : List A) → AllByRecursion P xs → AllByRecursion Q (map f xs)
all_images P Q f h [] k = tt
all_images P Q f h (x ∷ xs) k = (h x k.0, all_images P Q f h xs k.1)

every_image : {A B : Type 0} (P : A → Type 0) (Q : B → Type 0) (f : A → B) → ((a : A) → P a → Q (f a)) → (d : ℕ) (t : Tree A d) → Every P d t → Every Q d (each f d t)
every_image P Q f h zero t k = h t k
every_image P Q f h (suc d) t k = every_image (AllByRecursion P) (AllByRecursion Q) (map f) (all_images P Q f h) d t k

all_zipped : {A B C : Type 0} (P : A → Type 0) (Q : B → Type 0) (R : C → Type 0) (f : A → B → C) → ((a : A) (b : B) → P a → Q b → R (f a b)) → (xs : List A) (ys : List B) → AllByRecursion P xs → AllByRecursion Q ys → AllByRecursion R (zipped f xs ys)
all_zipped P Q R f h [] ys p q = tt
all_zipped P Q R f h (x ∷ xs) [] p q = tt
all_zipped P Q R f h (x ∷ xs) (y ∷ ys) p q = (h x y p.0 q.0, all_zipped P Q R f h xs ys p.1 q.1)

every_beside :
    {A B C : Type 0} (P : A → Type 0) (Q : B → Type 0) (R : C → Type 0) (f : A → B → C) (o : C) → R o → ((a : A) (b : B) → P a → Q b → R (f a b))
    → (d e : ℕ) (t : Tree A d) (u : Tree B e) → Every P d t → Every Q e u → Every R d (beside f o d e t u)
every_beside P Q R f o r h zero zero t u p q = h t u p q
every_beside P Q R f o r h zero (suc e) t u p q = r
every_beside P Q R f o r h (suc d) zero t u p q = every_image (AllByRecursion P) (AllByRecursion R) (λ xs. []) (λ xs k. tt) d t p
every_beside P Q R f o r h (suc d) (suc e) t u p q = every_beside (AllByRecursion P) (AllByRecursion Q) (AllByRecursion R) (zipped f) [] tt (all_zipped P Q R f h) d e t u p q

all_getd_or : {A : Type 0} (P : A → Type 0) (xs : List A) (n : ℕ) (o : A) → P o → AllByRecursion P xs → P (get_or xs n o)
all_getd_or P [] n o p h = p
all_getd_or P (x ∷ xs) zero o p h = h.0
all_getd_or P (x ∷ xs) (suc n) o p h = all_getd_or P xs n o p h.1

-- nothing is asked of a leaf
abbrev Any : List ℕ → Type 0
Any xs = Unit {0}

abbrev Any1 : ℕ → Type 0
Any1 x = Unit {0}

all_any : (xs : List ℕ) → AllByRecursion Any1 xs
all_any [] = tt
all_any (x ∷ xs) = (tt, all_any xs)

every_when : {A : Type 0} (P : A → Type 0) → ((a : A) → P a) → (d : ℕ) (t : Tree A d) → Every P d t
every_when P h zero t = h t
every_when P h (suc d) t = every_when (AllByRecursion P) (all_when P h) d t
  where
    all_when : {A : Type 0} (P : A → Type 0) → ((a : A) → P a) → (xs : List A) → AllByRecursion P xs
    all_when P h [] = tt
    all_when P h (x ∷ xs) = (h x, all_when P h xs)

every_any : (d : ℕ) (t : Tree (List ℕ) d) → Every Any d t
every_any d t = every_when Any (λ xs. tt) d t

module _ {V : Type 0} (K : Algebra V) (T : ℕ → Storage V) (b : ℕ) (some : 0 < b) (levels : LevelsBelow b T) where
  abbrev Low : List ℕ → Type 0
  Low xs = AllByRecursion (λ c. c < b) xs

  abbrev LowRefs : List (Option ℕ) → Type 0
  LowRefs rs = AllByRecursion (ReferenceBelow b) rs

  fibers_low : (s : Stream V) → PayloadsBelow b s → Every Low (coordinate_fibers s).0 (coordinate_fibers s).1
  fibers_low (coordinates zero t) h = tt
  fibers_low (coordinates (suc d) t) h = h
  fibers_low (references d t) h = tt
  fibers_low (values d t) h = tt

  children_low : (s : Stream V) → PayloadsBelow b s → Every LowRefs (reference_fibers s).0 (reference_fibers s).1
  children_low (coordinates d t) h = tt
  children_low (references zero t) h = tt
  children_low (references (suc d) t) h = h
  children_low (values d t) h = tt

  references_low : (s : Stream V) → PayloadsBelow b s → Every (ReferenceBelow b) (reference_tree s).0 (reference_tree s).1
  references_low (coordinates d t) h = tt
  references_low (references d t) h = h
  references_low (values d t) h = tt

  fiber_low : (slot l : ℕ) (r : Option ℕ) → AllByRecursion (λ x. (x.0 < b) × (x.1 < b)) (fiber_at (nth_level T slot l) r)
  fiber_low slot l (Some p) = all_getd_or (AllByRecursion (λ x. (x.0 < b) × (x.1 < b))) (nth_level T slot l) p [] tt (levels slot l)
  fiber_low slot l None = tt

  standing_low : (xs : List ℕ) (rs : List (Option ℕ)) (c : ℕ) → LowRefs rs → ReferenceBelow b (standing xs rs c)
  standing_low [] rs c h = tt
  standing_low (x ∷ xs) [] c h = tt
  standing_low (x ∷ xs) (r ∷ rs) c h = go (eqb x c) (standing_low xs rs c h.1)
    where
      go : (e : Bool) → ReferenceBelow b (standing xs rs c) → ReferenceBelow b (cond e r (standing xs rs c))
      go true ih = h.0
      go false ih = ih

  merged_low : (f : List ℕ → List ℕ → List ℕ) → ((x y : List ℕ) → Low x → Low y → Low (f x y)) → (s u : Stream V) → PayloadsBelow b s → PayloadsBelow b u → PayloadsBelow b (merged f s u)
  merged_low f keeps s u h k = every_beside Low Low Low f [] tt keeps (coordinate_fibers s).0 (coordinate_fibers u).0 (coordinate_fibers s).1 (coordinate_fibers u).1 (fibers_low s h) (fibers_low u k)

  aligned_low : (c r z : Stream V) → PayloadsBelow b r → PayloadsBelow b z → PayloadsBelow b (aligned c r z)
  aligned_low c r z h k =
      every_beside Any (λ (f : ℕ → Option ℕ). (x : ℕ) → ReferenceBelow b (f x)) LowRefs (λ fiber at. map at fiber) [] tt
      (λ fiber at _ low. all_images Any1 (ReferenceBelow b) at (λ x _. low x) fiber (all_any fiber))
      (coordinate_fibers z).0 (coordinate_fibers c).0 (coordinate_fibers z).1 _ (every_any (coordinate_fibers z).0 (coordinate_fibers z).1)
      (
      every_beside Any LowRefs (λ (f : ℕ → Option ℕ). (x : ℕ) → ReferenceBelow b (f x)) (λ fiber refs x. standing fiber refs x) (λ x. None) (λ x. tt)
      (λ fiber refs _ low x. standing_low fiber refs x low)
      (coordinate_fibers c).0 (reference_fibers r).0 (coordinate_fibers c).1 (reference_fibers r).1 (every_any (coordinate_fibers c).0 (coordinate_fibers c).1) (children_low r h)
      )

  repeated_low : (r z : Stream V) → PayloadsBelow b r → PayloadsBelow b (repeated r z)
  repeated_low r z h =
      every_beside Any (ReferenceBelow b) LowRefs (λ fiber x. map (λ c. x) fiber) [] tt
      (λ fiber x _ low. all_images Any1 (ReferenceBelow b) (λ c. x) (λ c _. low) fiber (all_any fiber))
      (coordinate_fibers z).0 (reference_tree r).0 (coordinate_fibers z).1 (reference_tree r).1 (every_any (coordinate_fibers z).0 (coordinate_fibers z).1) (references_low r h)

  nth_low : (ss : List (Stream V)) → AllByRecursion (PayloadsBelow b) ss → (n : ℕ) → PayloadsBelow b (nth_stream ss n)
  nth_low ss h n = all_getd_or (PayloadsBelow b) ss n (references 0 None) tt h

  outputs_low : (c : Command) (ss : List (Stream V)) → AllByRecursion (PayloadsBelow b) ss → AllByRecursion (PayloadsBelow b) (outputs K T c ss)
  outputs_low (ROOT out) ss h = (some, tt)
  outputs_low (SCAN t l r c k) ss h =
      let s = nth_stream ss r in
      let low : PayloadsBelow b (nth_stream ss r) = nth_low ss h r in (
        every_image (ReferenceBelow b) Low _ (λ q _. all_images _ (λ x. x < b) (λ x. x.0) (λ x p. p.0) (fiber_at (nth_level T t l) q) (fiber_low t l q)) (reference_tree s).0 (reference_tree s).1 (references_low s low),
        (
          every_image (ReferenceBelow b) LowRefs _ (λ q _. all_images _ (ReferenceBelow b) (λ x. Some x.1) (λ x p. p.1) (fiber_at (nth_level T t l) q) (fiber_low t l q)) (reference_tree s).0 (reference_tree s).1 (references_low s low),
          tt,
        ),
      )
  outputs_low (MEET x y out) ss h = (merged_low in_both (λ u w hu hw. all_both (λ c. c < b) u w hu) (nth_stream ss x) (nth_stream ss y) (nth_low ss h x) (nth_low ss h y), tt)
  outputs_low (JOIN x y out) ss h = (merged_low in_either (λ u w hu hw. all_either (λ c. c < b) u w hu hw) (nth_stream ss x) (nth_stream ss y) (nth_low ss h x) (nth_low ss h y), tt)
  outputs_low (ALIGN c r z out) ss h = (aligned_low (nth_stream ss c) (nth_stream ss r) (nth_stream ss z) (nth_low ss h r) (nth_low ss h z), tt)
  outputs_low (REPEAT r z out) ss h = (repeated_low (nth_stream ss r) (nth_stream ss z) (nth_low ss h r), tt)
  outputs_low (LOAD t r out) ss h = (tt, tt)
  outputs_low (MUL x y out) ss h = (tt, tt)
  outputs_low (ADD x y out) ss h = (tt, tt)
  outputs_low (SUM a out) ss h = (tt, tt)
  outputs_low (WRITE d v zs ks) ss h = tt

-- a command that fits makes streams at most one deeper than those that it reads
module _ {V : Type 0} (K : Algebra V) (T : ℕ → Storage V) where
  abbrev Shallow : ℕ → Stream V → Type 0
  Shallow n s = depth_of s < n

  made_depth : (ss : List (Stream V)) (n : ℕ) (s : Stream V) → Made ss n s → AllByRecursion (Shallow (length ss)) ss → depth_of s < length ss
  made_depth ss n s m h = subst (λ x. depth_of x < length ss) m.1 (All-get_or (Shallow (length ss)) ss n (references 0 None) m.0 h)

  outputs_shallow : (c : Command) (ss : List (Stream V)) → Fits c ss → AllByRecursion (Shallow (length ss)) ss → AllByRecursion (Shallow (length ss + length (outputs K T c ss))) (outputs K T c ss)
  outputs_shallow (ROOT out) ss f h = (omega arith, tt)
  outputs_shallow (SCAN t l r c k) ss f h =
      let lt = made_depth ss r _ f.0.is h in
      let e : (reference_tree (nth_stream ss r)).0 ≡ f.0.depth = ap (λ (s : Stream V). (reference_tree s).0) f.0.is.1 in
      (omega arith, (omega arith, tt))
  outputs_shallow (MEET x y out) ss f h =
      let lt = made_depth ss x _ f.0.first_is h in
      let e : (coordinate_fibers (nth_stream ss x)).0 ≡ f.0.depth = ap (λ (s : Stream V). (coordinate_fibers s).0) f.0.first_is.1 in
      (omega arith, tt)
  outputs_shallow (JOIN x y out) ss f h =
      let lt = made_depth ss x _ f.0.first_is h in
      let e : (coordinate_fibers (nth_stream ss x)).0 ≡ f.0.depth = ap (λ (s : Stream V). (coordinate_fibers s).0) f.0.first_is.1 in
      (omega arith, tt)
  outputs_shallow (ALIGN c r z out) ss f h =
      let lt = made_depth ss z _ f.0.merged_is h in
      let e : (coordinate_fibers (nth_stream ss z)).0 ≡ f.0.depth = ap (λ (s : Stream V). (coordinate_fibers s).0) f.0.merged_is.1 in
      (omega arith, tt)
  outputs_shallow (REPEAT r z out) ss f h =
      let lt = made_depth ss z _ f.0.merged_is h in
      let e : (coordinate_fibers (nth_stream ss z)).0 ≡ f.0.depth = ap (λ (s : Stream V). (coordinate_fibers s).0) f.0.merged_is.1 in
      (omega arith, tt)
  outputs_shallow (LOAD t r out) ss f h =
      let lt = made_depth ss r _ f.0.is h in
      let e : (reference_tree (nth_stream ss r)).0 ≡ f.0.depth = ap (λ (s : Stream V). (reference_tree s).0) f.0.is.1 in
      (omega arith, tt)
  outputs_shallow (MUL x y out) ss f h =
      let lt = made_depth ss x _ f.0.first_is h in
      let e : (value_tree K.zero (nth_stream ss x)).0 ≡ f.0.depth = ap (λ (s : Stream V). (value_tree K.zero s).0) f.0.first_is.1 in
      (omega arith, tt)
  outputs_shallow (ADD x y out) ss f h =
      let lt = made_depth ss x _ f.0.first_is h in
      let e : (value_tree K.zero (nth_stream ss x)).0 ≡ f.0.depth = ap (λ (s : Stream V). (value_tree K.zero s).0) f.0.first_is.1 in
      (omega arith, tt)
  outputs_shallow (SUM a out) ss f h =
      let lt = made_depth ss a _ f.0.is h in
      let e : (value_fibers (nth_stream ss a)).0 ≡ f.0.depth = ap (λ (s : Stream V). (value_fibers s).0) f.0.is.1 in
      (omega arith, tt)
  outputs_shallow (WRITE d v zs ks) ss f h = tt

  run_bounded :
      (b : ℕ) → 0 < b → LevelsBelow b T → (cs : List Command) (s : State V) → AllFit K T cs s → AllByRecursion (PayloadsBelow b) s.streams → AllByRecursion (Shallow (length s.streams)) s.streams
      → AllByRecursion (λ x. PayloadsBelow b x × (depth_of x < length (run K T cs s).streams)) (run K T cs s).streams
  run_bounded b some levels [] s f low shallow = both s.streams low shallow
    where
      both : (xs : List (Stream V)) → AllByRecursion (PayloadsBelow b) xs → AllByRecursion (Shallow (length s.streams)) xs → AllByRecursion (λ x. PayloadsBelow b x × (depth_of x < length s.streams)) xs
      both [] p q = tt
      both (x ∷ xs) p q = ((p.0, q.0), both xs p.1 q.1)
  run_bounded b some levels (c ∷ cs) s f low shallow =
      let new : List (Stream V) = outputs K T c s.streams in
      let long : length (s.streams ++ new) ≡ length s.streams + length new = length-append s.streams new in
      run_bounded b some levels cs (step K T c s) f.1
      (All-append (PayloadsBelow b) s.streams new low (outputs_low K T b some levels c s.streams low))
      (
      All-append (Shallow (length (s.streams ++ new))) s.streams new
      (All-weaker (Shallow (length s.streams)) (Shallow (length (s.streams ++ new))) (λ x lt. omega arith) s.streams shallow)
      (subst (λ n. AllByRecursion (Shallow n) new) (sym long) (outputs_shallow c s.streams f.0 shallow))
      )

pub runs_bounded : (V : Type 0) → RunsBounded V
runs_bounded V K T b some levels cs f = run_bounded K T b some levels cs nothing_yet f tt tt
