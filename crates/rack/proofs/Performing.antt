-- One more call, at the end of a course and in the row of answers. Assumes nothing.
use Rattle.std.proofs.Common.{◌≡◌, ℕ, zero, suc, ◌+◌, ◌<◌, min, List, [], ◌∷◌, ◌++◌, length, get_or, take, drop, set, sym, refl, ap, ◌∙◌, subst, arith}
use Rattle.std.proofs.lemmas.List.{take_more, take_more_set, length-take-le, drop-set-lt, drop-drop}
use Rattle.model.specs.Semirings.{Algebra, zipped}
use Rattle.model.specs.Fibers.{Level}
use Rattle.model.specs.Formats.{LevelSize}
use Rattle.model.specs.Calls as model
use Rattle.model.specs.Stores.{FormatRules}
use Rattle.rack_state.specs.Snapshots.{Snapshot}
use Rattle.rack_state.specs.Does.{Does}
use Rattle.rack.specs.Courses.{Events, Course, none, call}
use Rattle.rack.specs.Events.{call_of, answer_of, events}
use Rattle.rack.specs.declared.events.Call.{Call}
use Rattle.rack.specs.Events.{Answer}

module _ {X Y Z : Type 0} (f : X → Y → Z) where
  zipped_more : (xs : List X) (ys : List Y) (x : X) (y : Y) → length xs ≡ length ys → zipped f (xs ++ x ∷ []) (ys ++ y ∷ []) ≡ zipped f xs ys ++ f x y ∷ []
  zipped_more [] [] x y h = refl
  zipped_more [] (b ∷ ys) x y h = absurd (let z : suc (length ys) ≡ 0 = sym h in omega arith)
  zipped_more (a ∷ xs) [] x y h = absurd (omega (arith, h))
  zipped_more (a ∷ xs) (b ∷ ys) x y h = ap (λ l. f a b ∷ l) (zipped_more xs ys x y (let e : length xs ≡ length ys = omega (arith, h) in e))

  -- only as many pairs as the shorter list has
  zipped_front : (xs : List X) (ys : List Y) (n : ℕ) → n ≡ min (length xs) (length ys) → zipped f (take n xs) (take n ys) ≡ zipped f xs ys
  zipped_front [] ys zero h = refl
  zipped_front [] ys (suc n) h = refl
  zipped_front (a ∷ xs) [] zero h = refl
  zipped_front (a ∷ xs) [] (suc n) h = refl
  zipped_front (a ∷ xs) (b ∷ ys) zero h = absurd (omega (arith, h))
  zipped_front (a ∷ xs) (b ∷ ys) (suc n) h = ap (λ l. f a b ∷ l) (zipped_front xs ys n (let e : n ≡ min (length xs) (length ys) = omega (arith, h) in e))

module _ {P V : Type 0} (K : Algebra V) (reads : P → V) (rules : FormatRules) (meaning : ℕ → LevelSize → List ℕ → Level) where
  course_more : (s m t : Snapshot P) (es : Events V) (c : model.Call V) (a : model.Answer V) → Course K reads rules meaning s es m → Does K reads rules meaning c m a t
      → Course K reads rules meaning s (es ++ (c, a) ∷ []) t
  course_more s m t [] c a (none _) d = call s t t c a [] d (none t)
  course_more s m t (e ∷ es) c a (call _ n _ b r _ first rest) d = call s n t b r (es ++ (c, a) ∷ []) first (course_more n m t es c a rest d)

  -- the calls below i are made, and the answers from i on are as they were
  pub record SoFar (s : Snapshot P) (cs : List (Call P)) (before : List (Answer V)) (i : ℕ) (t : Snapshot P) (now_answers : List (Answer V)) : Type 0 where
    pub course : Course K reads rules meaning s (events reads (take i cs) (take i now_answers)) t
    pub rest : drop i now_answers ≡ drop i before

  pub so_far_none : (s : Snapshot P) (cs : List (Call P)) (before : List (Answer V)) → SoFar s cs before 0 s before
  so_far_none s cs before = record { course = none s; rest = refl }

  pub so_far_more : (s : Snapshot P) (cs : List (Call P)) (before : List (Answer V)) (i : ℕ) (t u : Snapshot P) (row : List (Answer V)) (c : Call P) (a : Answer V)
      → i < length cs → i < length row → c ≡ get_or cs i c → SoFar s cs before i t row → Does K reads rules meaning (call_of reads c) t (answer_of a) u
      → SoFar s cs before (i + 1) u (set row i a)
  so_far_more s cs before i t u row c a within room is so d =
      let made : events reads (take (i + 1) cs) (take (i + 1) (set row i a)) ≡ events reads (take i cs) (take i row) ++ (call_of reads c, answer_of a) ∷ [] =
      ap (λ l. events reads l (take (i + 1) (set row i a))) (take_more cs i c within ∙ ap (λ x. take i cs ++ x ∷ []) (sym is))
      ∙ ap (events reads (take i cs ++ c ∷ [])) (take_more_set row i a room)
      ∙ zipped_more (λ x y. (call_of reads x, answer_of y)) (take i cs) (take i row) c a (length-take-le i cs (omega arith) ∙ sym (length-take-le i row (omega arith))) in
      record {
        course = subst (λ es. Course K reads rules meaning s es u) (sym made) (course_more s t u (events reads (take i cs) (take i row)) (call_of reads c) (answer_of a) so.course d);
        rest = drop-set-lt (i + 1) row i a (omega arith) ∙ sym (drop-drop 1 i row) ∙ ap (drop 1) so.rest ∙ drop-drop 1 i before;
      }

  pub so_far_all : (s : Snapshot P) (cs : List (Call P)) (before row : List (Answer V)) (t : Snapshot P) → length row ≡ length before → SoFar s cs before (min (length cs) (length before)) t row
      → Course K reads rules meaning s (events reads cs row) t × (drop (min (length cs) (length before)) row ≡ drop (min (length cs) (length before)) before)
  so_far_all s cs before row t same so =
      let all : events reads (take (min (length cs) (length before)) cs) (take (min (length cs) (length before)) row) ≡ events reads cs row =
      zipped_front (λ x y. (call_of reads x, answer_of y)) cs row (min (length cs) (length before)) (ap (min (length cs)) (sym same)) in
      (subst (λ es. Course K reads rules meaning s es t) all so.course, so.rest)
