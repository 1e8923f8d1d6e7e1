-- What a command takes of the areas. Assumes nothing.
use Rattle.std.proofs.Common.{◌≡◌, ℕ, zero, suc, ◌+◌, ◌*◌, ◌≤◌, Bool, true, false, cond, eqb, ltb, List, [], ◌∷◌, ◌++◌, map, length, Some, None, Option, sym, refl, ap, ◌∙◌, subst, ap₂, append-nil, arith, length-append}
use lib.ListN.{length-map}
use Rattle.std.specs.List.{flat_map}
use Rattle.model.specs.Semirings.{Algebra, total, zipped}
use Rattle.model.specs.Fibers.{Level, coords, fiber_at}
use Rattle.model.specs.Tensors.{Storage, has, same, value_at}
use Rattle.model.specs.Tokens.{Token, stop, done, word}
use Rattle.model.specs.Trees.{Tree, Pairwise, Alike, tokens, tape, each, beside, leaves, number_token, reference_token, numbered}
use Rattle.model.specs.Streams.{Stream, coordinates, references, values, values_of, tape_of, words_of, all_words, all_values}
use Rattle.model.specs.Commands.{Command, ROOT, SCAN, MEET, JOIN, ALIGN, REPEAT, LOAD, MUL, ADD, SUM, WRITE}
use Rattle.model.specs.Blocks.{Key, in_both, put, in_either, standing, scanned_coordinates, scanned_children, merged, aligned, repeated, loaded, combined, summed}
use Rattle.model.specs.Running.{Table, before, insert, inserts, nth_stream, nth_level}
use Rattle.model.specs.Shapes.{SameShape, Combinable, Fits}
use Rattle.model.specs.Costs.{tape_length, Cost, Costs}
use Rattle.model.proofs.TapeLengths.{length_each, length_numbered, length_beside, length_gathers, leaves_beside}

reference_one : (r : Option ℕ) → length (reference_token r) ≡ 1
reference_one (Some p) = refl
reference_one None = refl

-- words of one output
one_words : {V : Type 0} (used : ℕ) (s : Stream V) → length (all_words used (s ∷ [])) ≡ length (tape_of used s)
one_words used s = ap length (append-nil (words_of used s)) ∙ length-map (tape_of used s) word

tape_words : {V : Type 0} (s : Stream V) → tape_length s ≡ length (tape_of 0 s)
tape_words s = length-map (tape_of 0 s) word

tape_tokens : {A : Type 0} (leaf : A → List Token) (d : ℕ) (t : Tree A d) → length (tape leaf d t) ≡ length (tokens leaf 0 d t) + 1
tape_tokens leaf d t = length-append (tokens leaf 0 d t) (done ∷ [])

-- a value stream, wherever its values lie
value_tape : (V : Type 0) (used d : ℕ) (t : Tree V d) → length (tape_of {V = V} used (values d t)) ≡ length (tokens (λ (v : V). number_token 0) 0 d t) + 1
value_tape V used d t = tape_tokens number_token d (numbered V d used t) ∙ ap (λ n. n + 1) (length_numbered (λ (v : V). number_token 0) number_token (λ n (a : V). n) (λ a. 1) (λ k a. refl) 0 0 d used t)

both_few : (xs ys : List ℕ) → length (in_both xs ys) ≤ length xs
both_few [] ys = omega arith
both_few (x ∷ xs) ys = go (has ys x) (both_few xs ys)
  where
    go : (b : Bool) → length (in_both xs ys) ≤ length xs → length (cond b (x ∷ in_both xs ys) (in_both xs ys)) ≤ suc (length xs)
    go true ih = omega arith
    go false ih = omega arith

put_few : (x : ℕ) (ys : List ℕ) → length (put x ys) ≤ suc (length ys)
put_few x [] = omega arith
put_few x (y ∷ ys) = go (ltb x y) (eqb x y) (put_few x ys)
  where
    go : (a b : Bool) → length (put x ys) ≤ suc (length ys) → length (cond a (x ∷ y ∷ ys) (cond b (y ∷ ys) (y ∷ put x ys))) ≤ suc (suc (length ys))
    go true b ih = omega arith
    go false true ih = omega arith
    go false false ih = omega arith

either_few : (xs ys : List ℕ) → length (in_either xs ys) ≤ length xs + length ys
either_few [] ys = omega arith
either_few (x ∷ xs) ys = omega (arith, put_few x (in_either xs ys), either_few xs ys)

closed_length : (xs : List ℕ) (n : ℕ) → length (flat_map number_token xs ++ stop n ∷ []) ≡ length xs + 1
closed_length xs n = length-append (flat_map number_token xs) (stop n ∷ []) ∙ ap (λ k. k + 1) (ones xs)
  where
    ones : (ys : List ℕ) → length (flat_map number_token ys) ≡ length ys
    ones [] = refl
    ones (y ∷ ys) = ap suc (ones ys)

closed_refs : (xs : List (Option ℕ)) (n : ℕ) → length (flat_map reference_token xs ++ stop n ∷ []) ≡ length xs + 1
closed_refs xs n = length-append (flat_map reference_token xs) (stop n ∷ []) ∙ ap (λ k. k + 1) (ones xs)
  where
    ones : (ys : List (Option ℕ)) → length (flat_map reference_token ys) ≡ length ys
    ones [] = refl
    ones (y ∷ ys) = length-append (reference_token y) (flat_map reference_token ys) ∙ ap₂ ◌+◌ (reference_one y) (ones ys) ∙ omega arith

insert_few : {V : Type 0} (K : Algebra V) (k : Key) (x : V) (t : Table V) → length (insert K k x t) ≤ length t + 1
insert_few K k x [] = omega arith
insert_few {V} K k x (e ∷ t) = go (same k e.0) (before k e.0) (insert_few K k x t)
  where
    go : (a b : Bool) → length (insert K k x t) ≤ length t + 1 → length (cond a ((e.0, K.sum e.1 x) ∷ t) (cond b ((k, x) ∷ e ∷ t) (e ∷ insert K k x t))) ≤ suc (length t) + 1
    go true b ih = omega arith
    go false true ih = omega arith
    go false false ih = omega arith

inserts_few : {V : Type 0} (K : Algebra V) (es t : Table V) → length (inserts K es t) ≤ length t + length es
inserts_few K [] t = omega arith
inserts_few K (e ∷ es) t = omega (arith, insert_few K e.0 e.1 t, inserts_few K es (insert K e.0 e.1 t))

pairwise_turned : {A B : Type 0} (R : A → B → Type 0) (S : B → A → Type 0) → ((a : A) (b : B) → R a b → S b a) → (xs : List A) (ys : List B) → Pairwise R xs ys → Pairwise S ys xs
pairwise_turned R S h [] [] r = tt
pairwise_turned R S h [] (y ∷ ys) r = absurd r
pairwise_turned R S h (x ∷ xs) [] r = absurd r
pairwise_turned R S h (x ∷ xs) (y ∷ ys) r = (h x y r.0, pairwise_turned R S h xs ys r.1)

alike_turned : {A B : Type 0} (R : A → B → Type 0) (S : B → A → Type 0) → ((a : A) (b : B) → R a b → S b a) → (d : ℕ) (t : Tree A d) (u : Tree B d) → Alike R d t u → Alike S d u t
alike_turned R S h zero t u r = h t u r
alike_turned R S h (suc d) t u r = alike_turned (Pairwise R) (Pairwise S) (pairwise_turned R S h) d t u r

pairwise_beside : {A B C D : Type 0} (S : A → C → Type 0) (R : A → B → Type 0) (Q : C → D → Type 0) (f : A → B → D) → ((a : A) (b : B) (c : C) → S a c → R a b → Q c (f a b)) → (xs : List A) (ys : List B) (zs : List C) → Pairwise S xs zs → Pairwise R xs ys → Pairwise Q zs (zipped f xs ys)
pairwise_beside S R Q f h [] [] [] s r = tt
pairwise_beside S R Q f h [] [] (z ∷ zs) s r = absurd s
pairwise_beside S R Q f h [] (y ∷ ys) zs s r = absurd r
pairwise_beside S R Q f h (x ∷ xs) [] zs s r = absurd r
pairwise_beside S R Q f h (x ∷ xs) (y ∷ ys) [] s r = absurd s
pairwise_beside S R Q f h (x ∷ xs) (y ∷ ys) (z ∷ zs) s r = (h x y z s.0 r.0, pairwise_beside S R Q f h xs ys zs s.1 r.1)

alike_beside : {A B C D : Type 0} (S : A → C → Type 0) (R : A → B → Type 0) (Q : C → D → Type 0) (f : A → B → D) (o : D) → ((a : A) (b : B) (c : C) → S a c → R a b → Q c (f a b)) → (d : ℕ) (t : Tree A d) (u : Tree C d) (v : Tree B d) → Alike S d t u → Alike R d t v → Alike Q d u (beside f o d d t v)
alike_beside S R Q f o h zero t u v s r = h t v u s r
alike_beside S R Q f o h (suc d) t u v s r = alike_beside (Pairwise S) (Pairwise R) (Pairwise Q) (zipped f) [] (pairwise_beside S R Q f h) d t u v s r

module _ {V : Type 0} (K : Algebra V) (T : ℕ → Storage V) where
  merge_few : (f : List ℕ → List ℕ → List ℕ) (g : ℕ → ℕ → ℕ → Type 0) → ((a b c e x y : ℕ) → g a c x → g b e y → g (a + b) (c + e) (x + y)) → g 1 1 1 → g 0 0 0
      → ((xs ys : List ℕ) → g (length (f xs ys)) (length xs) (length ys))
      → (d : ℕ) (t u : Tree (List ℕ) d) → SameShape (List ℕ) (List ℕ) d t u
      → g (length (tokens number_token 0 (suc d) (beside f [] d d t u))) (length (tokens number_token 0 (suc d) t)) (length (tokens number_token 0 (suc d) u))
  merge_few f g adds one none few d t u shape =
      length_beside g adds one none (λ xs. flat_map number_token xs ++ stop 0 ∷ []) (λ xs. flat_map number_token xs ++ stop 0 ∷ []) (λ xs. flat_map number_token xs ++ stop 0 ∷ []) (λ a b. Unit {0}) f []
      (λ xs ys r. rw (closed_length (f xs ys) 0, closed_length xs 0, closed_length ys 0) (adds _ _ _ _ _ _ (few xs ys) one)) 1 1 1 d t u shape

  abbrev Left : ℕ → ℕ → ℕ → Type 0
  Left a c x = a ≡ c

  left_adds : (a b c e x y : ℕ) → Left a c x → Left b e y → Left (a + b) (c + e) (x + y)
  left_adds a b c e x y p q = ap₂ ◌+◌ p q

  -- at streams that are known
  known : (P : Stream V → Type 0) (x y : Stream V) → x ≡ y → P y → P x
  known P x y e h = subst P (sym e) h

  merged_cost : (f : List ℕ → List ℕ → List ℕ) (used d : ℕ) (t u : Tree (List ℕ) d) → length (all_words used (merged {V = V} f (coordinates (suc d) t) (coordinates (suc d) u) ∷ [])) ≡ length (tokens number_token 0 (suc d) (beside f [] d d t u)) + 1
  merged_cost f used d t u = one_words used (merged {V = V} f (coordinates (suc d) t) (coordinates (suc d) u)) ∙ tape_tokens number_token (suc d) (beside f [] d d t u)

  crd_length : (d : ℕ) (t : Tree ℕ d) → tape_length {V = V} (coordinates d t) ≡ length (tokens number_token 0 d t) + 1
  crd_length d t = tape_words {V = V} (coordinates d t) ∙ tape_tokens number_token d t

  ref_length : (d : ℕ) (t : Tree (Option ℕ) d) → tape_length {V = V} (references d t) ≡ length (tokens reference_token 0 d t) + 1
  ref_length d t = tape_words {V = V} (references d t) ∙ tape_tokens reference_token d t

  val_length : (d : ℕ) (t : Tree V d) → tape_length (values d t) ≡ length (tokens (λ (v : V). number_token 0) 0 d t) + 1
  val_length d t = tape_words (values d t) ∙ value_tape V 0 d t

  meet_cost : (used d : ℕ) (t u : Tree (List ℕ) d) → SameShape (List ℕ) (List ℕ) d t u
      → length (all_words used (merged {V = V} in_both (coordinates (suc d) t) (coordinates (suc d) u) ∷ [])) ≤ tape_length {V = V} (coordinates (suc d) t)
  meet_cost used d t u shape =
      omega (arith, merged_cost in_both used d t u, crd_length (suc d) t, merge_few in_both (λ a c x. a ≤ c) (λ a b c e x y p q. omega arith) (omega arith) (omega arith) both_few d t u shape)

  join_cost : (used d : ℕ) (t u : Tree (List ℕ) d) → SameShape (List ℕ) (List ℕ) d t u
      → length (all_words used (merged {V = V} in_either (coordinates (suc d) t) (coordinates (suc d) u) ∷ [])) ≤ tape_length {V = V} (coordinates (suc d) t) + tape_length {V = V} (coordinates (suc d) u)
  join_cost used d t u shape =
      omega (arith, merged_cost in_either used d t u, crd_length (suc d) t, crd_length (suc d) u, merge_few in_either (λ a c x. a ≤ c + x) (λ a b c e x y p q. omega arith) (omega arith) (omega arith) either_few d t u shape)

  -- as long as z
  along : {G : Type 0} (f : List ℕ → G → List (Option ℕ)) → ((fiber : List ℕ) (g : G) → length (f fiber g) ≡ length fiber) → (right : G → List Token) → (d : ℕ) (zs : Tree (List ℕ) d) (u : Tree G d) → Alike (λ (fiber : List ℕ) (g : G). Unit {0}) d zs u
      → length (tokens reference_token 0 (suc d) (beside f [] d d zs u)) ≡ length (tokens number_token 0 (suc d) zs)
  along {G} f same_long right d zs u shape =
      length_beside Left left_adds refl refl (λ xs. flat_map number_token xs ++ stop 0 ∷ []) right (λ xs. flat_map reference_token xs ++ stop 0 ∷ []) (λ (fiber : List ℕ) (g : G). Unit {0}) f []
      (λ fiber g r. closed_refs (f fiber g) 0 ∙ ap (λ n. n + 1) (same_long fiber g) ∙ sym (closed_length fiber 0)) 1 1 1 d zs u shape

  load_cost : (vs : List V) (used d : ℕ) (t : Tree (Option ℕ) d) → length (all_words used (loaded K vs (references d t) ∷ [])) ≡ tape_length {V = V} (references d t)
  load_cost vs used d t =
      one_words used (loaded K vs (references d t)) ∙ value_tape V used d (each (value_at K.zero vs) d t)
      ∙ ap (λ n. n + 1) (length_each reference_token (λ (v : V). number_token 0) (value_at K.zero vs) (λ r. sym (reference_one r)) 0 0 d t) ∙ sym (ref_length d t)

  combined_cost : (f : V → V → V) (used d : ℕ) (t u : Tree V d) → SameShape V V d t u
      → (length (all_words used (combined K f (values d t) (values d u) ∷ [])) ≡ tape_length (values d t)) × (length (all_values (combined K f (values d t) (values d u) ∷ [])) ≡ length (values_of (values d t)))
  combined_cost f used d t u shape = (
    one_words used (combined K f (values d t) (values d u)) ∙ value_tape V used d (beside f K.zero d d t u)
        ∙ ap (λ n. n + 1) (length_beside Left left_adds refl refl (λ (v : V). number_token 0) (λ (v : V). number_token 0) (λ (v : V). number_token 0) (λ (a b : V). Unit {0}) f K.zero (λ a b r. refl) 0 0 0 d t u shape) ∙ sym (val_length d t),
    ap length (append-nil (leaves V d (beside f K.zero d d t u))) ∙ leaves_beside (λ (a b : V). Unit {0}) f K.zero (λ (a : V). a ∷ []) (λ (a : V). a ∷ []) (λ a b r. refl) d t u shape,
  )

  sum_cost : (used d : ℕ) (t : Tree (List V) d) → length (all_words used (summed K (values (suc d) t) ∷ [])) + length (values_of {V = V} (values (suc d) t)) ≡ tape_length {V = V} (values (suc d) t)
  sum_cost used d t =
      let e = one_words used (summed K (values (suc d) t)) ∙ value_tape V used d (each (total K) d t) in
      let h = length_gathers (λ (xs : List V). flat_map (λ (v : V). number_token 0) xs ++ stop 0 ∷ []) (λ (v : V). number_token 0) (total K) (flat_map (λ (v : V). v ∷ [])) (λ xs. fiber_long xs) 0 1 d t in
      omega (arith, e, h, val_length (suc d) t)
    where
      ones : (xs : List V) → length (flat_map (λ (v : V). number_token 0) xs) ≡ length (flat_map (λ (v : V). v ∷ []) xs)
      ones [] = refl
      ones (x ∷ xs) = ap suc (ones xs)

      fiber_long : (xs : List V) → 1 + length (flat_map (λ (v : V). v ∷ []) xs) ≡ length (flat_map (λ (v : V). number_token 0) xs ++ stop 0 ∷ [])
      fiber_long xs = omega (arith, length-append (flat_map (λ (v : V). number_token 0) xs) (stop 0 ∷ []), ones xs)

  scan_cost : (l : Level) (used d : ℕ) (t : Tree (Option ℕ) d)
      → length (all_words used (scanned_coordinates {V = V} l (references d t) ∷ scanned_children l (references d t) ∷ [])) ≡ 2 * tape_length {V = V} (scanned_coordinates l (references d t))
  scan_cost l used d t =
      let one : Stream V = scanned_coordinates l (references d t) in
      let two : Stream V = scanned_children l (references d t) in
      let crds = length_each leaf (λ xs. flat_map number_token xs ++ stop 0 ∷ []) (λ r. coords (fiber_at l r)) (λ r. refl) 1 1 d t in
      let kids = length_each leaf (λ xs. flat_map reference_token xs ++ stop 0 ∷ []) (λ r. map (λ x. Some x.1) (fiber_at l r))
      (λ r. closed_refs (map (λ x. Some x.1) (fiber_at l r)) 0 ∙ ap (λ n. n + 1) (length-map (fiber_at l r) (λ x. Some x.1) ∙ sym (length-map (fiber_at l r) (λ x. x.0))) ∙ sym (closed_length (coords (fiber_at l r)) 0)) 1 1 d t in
      omega (
        arith,
        length-append (words_of used one) (words_of (used + 0) two ++ []),
        ap length (append-nil (words_of (used + 0) two)),
        length-map (tape_of used one) word,
        length-map (tape_of (used + 0) two) word,
        crd_length (suc d) (each (λ r. coords (fiber_at l r)) d t),
        tape_tokens number_token (suc d) (each (λ r. coords (fiber_at l r)) d t),
        tape_tokens reference_token (suc d) (each (λ r. map (λ x. Some x.1) (fiber_at l r)) d t),
        crds,
        kids,
      )
    where
      leaf : Option ℕ → List Token
      leaf r = flat_map number_token (coords (fiber_at l r)) ++ stop 0 ∷ []

  combine_costs : (f : V → V → V) (ss : List (Stream V)) (a b used : ℕ) → Combinable ss a b
      → (length (all_words used (combined K f (nth_stream ss a) (nth_stream ss b) ∷ [])) ≡ tape_length (nth_stream ss a)) × (length (all_values (combined K f (nth_stream ss a) (nth_stream ss b) ∷ [])) ≡ length (values_of (nth_stream ss a)))
  combine_costs f ss a b used m =
      known (λ x. (length (all_words used (combined K f x (nth_stream ss b) ∷ [])) ≡ tape_length x) × (length (all_values (combined K f x (nth_stream ss b) ∷ [])) ≡ length (values_of x))) _ _ m.first_is.1
      (known (λ y. (length (all_words used (combined K f (values m.depth m.first) y ∷ [])) ≡ tape_length (values m.depth m.first)) × (length (all_values (combined K f (values m.depth m.first) y ∷ [])) ≡ length (values_of (values m.depth m.first)))) _ _ m.second_is.1
      (combined_cost f used m.depth m.first m.second m.shape))

  costs : (c : Command) (ss : List (Stream V)) → Fits c ss → (used : ℕ) (t : Table V) → Cost K T used c ss t
  costs (ROOT out) ss fit used t = (refl, refl)
  costs (SCAN s l r c k) ss fit used t =
      let m = fit.0 in
      (known (λ x. length (all_words used (scanned_coordinates (nth_level T s l) x ∷ scanned_children (nth_level T s l) x ∷ [])) ≡ 2 * tape_length {V = V} (scanned_coordinates (nth_level T s l) x)) _ _ m.is.1 (scan_cost (nth_level T s l) used m.depth m.tree), refl)
  costs (MEET a b out) ss fit used t =
      let m = fit.0 in (
        known (λ x. length (all_words used (merged in_both x (nth_stream ss b) ∷ [])) ≤ tape_length x) _ _ m.first_is.1
            (known (λ y. length (all_words used (merged in_both (coordinates (suc m.depth) m.first) y ∷ [])) ≤ tape_length {V = V} (coordinates (suc m.depth) m.first)) _ _ m.second_is.1 (meet_cost used m.depth m.first m.second m.shape)),
        refl,
      )
  costs (JOIN a b out) ss fit used t =
      let m = fit.0 in (
        known (λ x. length (all_words used (merged in_either x (nth_stream ss b) ∷ [])) ≤ tape_length x + tape_length (nth_stream ss b)) _ _ m.first_is.1
            (known (λ y. length (all_words used (merged in_either (coordinates (suc m.depth) m.first) y ∷ [])) ≤ tape_length {V = V} (coordinates (suc m.depth) m.first) + tape_length y) _ _ m.second_is.1 (join_cost used m.depth m.first m.second m.shape)),
        refl,
      )
  costs (ALIGN c r z out) ss fit used t =
      let m = fit.0 in
      let d = m.depth in
      let crd : Stream V = coordinates (suc d) m.fibers in
      let kid : Stream V = references (suc d) m.children in (
        known (λ x. length (all_words used (aligned x (nth_stream ss r) (nth_stream ss z) ∷ [])) ≡ tape_length (nth_stream ss z)) _ _ m.fibers_is.1
            (known (λ y. length (all_words used (aligned crd y (nth_stream ss z) ∷ [])) ≡ tape_length (nth_stream ss z)) _ _ m.children_is.1
            (known (λ w. length (all_words used (aligned crd kid w ∷ [])) ≡ tape_length w) _ _ m.merged_is.1
            (one_words used (aligned {V = V} crd kid (coordinates (suc d) m.merged)) ∙ tape_tokens reference_token (suc d) _
            ∙ ap (λ n. n + 1) (along (λ fiber (at : ℕ → Option ℕ). map at fiber) (λ fiber at. length-map fiber at) (λ at. []) d m.merged (beside (λ fiber refs c. standing fiber refs c) (λ c. None) d d m.fibers m.children)
            (alike_beside (λ (a b : List ℕ). Unit {0}) (Pairwise (λ (a : ℕ) (b : Option ℕ). Unit {0})) (λ (a : List ℕ) (f : ℕ → Option ℕ). Unit {0}) (λ fiber refs c. standing fiber refs c) (λ c. None) (λ a b g h k. tt) d m.fibers m.merged m.children m.shape m.beside_each))
            ∙ sym (crd_length (suc d) m.merged)))),
        refl,
      )
  costs (REPEAT r z out) ss fit used t =
      let m = fit.0 in (
        known (λ x. length (all_words used (repeated x (nth_stream ss z) ∷ [])) ≡ tape_length (nth_stream ss z)) _ _ m.tree_is.1
            (known (λ y. length (all_words used (repeated (references m.depth m.tree) y ∷ [])) ≡ tape_length y) _ _ m.merged_is.1
            (one_words used (repeated {V = V} (references m.depth m.tree) (coordinates (suc m.depth) m.merged)) ∙ tape_tokens reference_token (suc m.depth) _ ∙ ap (λ n. n + 1) (along (λ fiber (r : Option ℕ). map (λ c. r) fiber) (λ fiber r. length-map fiber (λ c. r)) (λ r. []) m.depth m.merged m.tree (alike_turned (λ (r : Option ℕ) (fiber : List ℕ). Unit {0}) (λ (fiber : List ℕ) (r : Option ℕ). Unit {0}) (λ a b h. tt) m.depth m.tree m.merged m.shape)) ∙ sym (crd_length (suc m.depth) m.merged))),
        refl,
      )
  costs (LOAD s r out) ss fit used t = let m = fit.0 in known (λ x. length (all_words used (loaded K (T s).values x ∷ [])) ≡ tape_length x) _ _ m.is.1 (load_cost (T s).values used m.depth m.tree)
  costs (MUL a b out) ss fit used t = combine_costs K.product ss a b used fit.0
  costs (ADD a b out) ss fit used t = combine_costs K.sum ss a b used fit.0
  costs (SUM a out) ss fit used t = let m = fit.0 in known (λ x. length (all_words used (summed K x ∷ [])) + length (values_of x) ≡ tape_length x) _ _ m.is.1 (sum_cost used m.depth m.tree)
  costs (WRITE d v zs ks) ss fit used t = (refl, refl, inserts_few K _ t)

pub command_costs : (V : Type 0) → Costs V
command_costs V K T c ss fit used t = costs K T c ss fit used t
