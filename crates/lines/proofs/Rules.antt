-- From what the code answers to the conditions of the line. Assumes nothing.
use Rattle.std.proofs.Common.{◌≡◌, ℕ, true, false, cond, not, eqb, List, [], ◌∷◌, ◌++◌, map, length, Some, Option, sym, refl, ap, ◌∙◌, subst}
use Rattle.std.specs.List.{flat_map}
use Rattle.std.proofs.lemmas.List.{map-append}
use Rattle.model.specs.Grammar.{Syntax, Vars}
use Rattle.model.specs.Reading.{PlacedAccess, placed_vars, body_place, order_place, placed_accesses, terms_from}
use Rattle.model.specs.Conditions.{Slots, Check, Sized, Spells, first_fault, leftmost, beyond, places, access_vars, left_vars, all_vars, firsts, openings, over_limits, wrong_access, tree_vars, all_in, additions, uneven, sized_vars, extents_of, extent_in, sized, other_extent, order_checks, wrong_order, out_of_order, repeats}
use Rattle.lines.specs.declared.sets.VarSet.{VarSet}
use Rattle.lines.specs.declared.line.Syntax.{Syntax as Record}
use Rattle.reader.specs.Lists.{vars_of}
use Rattle.lines.specs.Sets.{SetOf}
use Rattle.lines.specs.Tables.{entries, entry, stood_for}
use Rattle.lines.specs.Checks.{misfit_check, misfit, unordered_check, unordered, order_faults}
use Rattle.std.specs.Option.{option_or}
use Rattle.lines.specs.Limits.{letters, crowded, too_deep, Deep}
use Rattle.lines.specs.Sizes.{sized_of, differs}
use Rattle.lines.specs.Evenness.{SumsEvenly, TermsHave, HasVars, term_check}
use Rattle.lines.specs.Describes.{Describes}
use Rattle.lines.proofs.FirstFaults.{first_fault_append}
use Rattle.lines.proofs.NodeVars.{tied_vars}
use Rattle.lines.proofs.Letters.{letters_line}
use Rattle.lines.proofs.Describing.{table_stands, left_is, order_is, order_vars_in, body_tied}

map_map : {A B C : Type 0} (f : B → C) (g : A → B) (xs : List A) → map (λ x. f (g x)) xs ≡ map f (map g xs)
map_map f g [] = refl
map_map f g (x ∷ xs) = ap (λ l. f (g x) ∷ l) (map_map f g xs)

joined_map : {A B C : Type 0} (f : B → List C) (g : A → B) (xs : List A) → flat_map (λ x. f (g x)) xs ≡ flat_map f (map g xs)
joined_map f g [] = refl
joined_map f g (x ∷ xs) = ap (λ l. f (g x) ++ l) (joined_map f g xs)

map_joined : {A B C : Type 0} (f : B → C) (g : A → List B) (xs : List A) → flat_map (λ x. map f (g x)) xs ≡ map f (flat_map g xs)
map_joined f g [] = refl
map_joined f g (x ∷ xs) = ap (λ l. map f (g x) ++ l) (map_joined f g xs) ∙ sym (map-append f (g x) (flat_map g xs))

module _ (s : List ℕ) (x : Record) (l : Syntax) (h : Spells s l) (d : Describes x l) where
  -- checks of the entries are checks of the accesses
  each : (f : PlacedAccess → Check) → map (λ e. f (stood_for s e)) (entries x.accesses) ≡ map f (placed_accesses l)
  each f = map_map f (stood_for s) (entries x.accesses) ∙ ap (map f) (table_stands s x l h d)

  -- and so is what is listed for each
  pub listed_each : {B : Type 0} (F : PlacedAccess → List B) → flat_map (λ a. F (stood_for s (entry a))) (placed_accesses l) ≡ flat_map F (placed_accesses l)
  listed_each F =
      joined_map F (λ a. stood_for s (entry a)) (placed_accesses l)
      ∙ ap (flat_map F) (map_map (stood_for s) entry (placed_accesses l) ∙ ap (map (stood_for s)) (sym d.table) ∙ table_stands s x l h d)

  pub unordered_rule : (r : Option ℕ) → r ≡ first_fault (map (unordered (vars_of s x.order) s) (entries x.accesses)) → r ≡ out_of_order l
  unordered_rule r e =
      e ∙ ap (λ os. first_fault (map (unordered os s) (entries x.accesses))) (order_is s x l h d) ∙ ap first_fault (each (unordered_check l.order))

  module _ (slots : Slots) where
    pub repeats_rule : true ≡ repeats (vars_of s x.left) → Some 0 ≡ wrong_access slots l
    repeats_rule e = ap (λ b. cond b (Some 0) (first_fault (map (misfit_check slots) (placed_accesses l)))) (e ∙ ap repeats (left_is s x l h d))

    pub misfit_rule : (r : Option ℕ) → false ≡ repeats (vars_of s x.left) → r ≡ first_fault (map (misfit slots s) (entries x.accesses)) → r ≡ wrong_access slots l
    misfit_rule r nay e =
        e ∙ ap first_fault (each (misfit_check slots))
        ∙ ap (λ b. cond b (Some 0) (first_fault (map (misfit_check slots) (placed_accesses l)))) (nay ∙ ap repeats (left_is s x l h d))

    sizes : PlacedAccess → List Sized
    sizes a = sized_vars (access_vars a) (extents_of (slots a.of.slot))

    sized_all : flat_map (sized_of slots s) (entries x.accesses) ≡ sized slots l
    unfolding sizes
    sized_all = ap (flat_map (sized_of slots s)) d.table ∙ sym (joined_map (sized_of slots s) entry (placed_accesses l)) ∙ listed_each sizes

    pub extents_rule : (r : Option ℕ) → r ≡ first_fault (flat_map (λ e. map (differs slots s (entries x.accesses)) (sized_of slots s e)) (entries x.accesses)) → r ≡ other_extent slots l
    extents_rule r e =
        e ∙ ap first_fault (map_joined (differs slots s (entries x.accesses)) (sized_of slots s) (entries x.accesses))
        ∙ ap (λ zs. first_fault (map (λ z. (z.place, not (eqb z.extent (extent_in zs z.var)))) zs)) sized_all

  pub order_rule : (used : VarSet) (r : Option ℕ) → HasVars s x.parsed.arena.nodes x.parsed.root used → (Vars (vars_of s x.order) → (us : List ℕ) → Vars us → SetOf us used → r ≡ first_fault (order_faults us s x.order)) → r ≡ wrong_order l
  order_rule used r w f =
      let us = tree_vars l.body in
      f (order_vars_in s x l h d) us (tied_vars s l.body x.parsed.body (body_tied s x l h d)) (w l.body x.parsed.body d.stands.holds (body_tied s x l h d))
      ∙ ap (λ vs. first_fault (order_checks us [] (placed_vars x.order.place vs) ++ (length s, not (all_in us vs)) ∷ [])) (order_is s x l h d)
      ∙ ap (λ o. first_fault (order_checks us [] (placed_vars o.place l.order) ++ (length s, not (all_in us l.order)) ∷ [])) d.order
      ∙ ap (λ n. first_fault (order_checks us [] (placed_vars (order_place l) l.order) ++ (n, not (all_in us l.order)) ∷ [])) (sym (ap length h.spelled))

  pub uneven_rule : (left : VarSet) (p q r : Option ℕ) → SetOf (vars_of s x.left) left → SumsEvenly s x.parsed.arena.nodes x.parsed.root false p → TermsHave s x.parsed.arena.nodes x.parsed.root x.parsed.body left q → r ≡ leftmost p q → r ≡ uneven l
  uneven_rule left p q r set f g e =
      let t = body_tied s x l h d in
      let sums : p ≡ first_fault (additions (body_place l) false l.body) = f l.body x.parsed.body d.stands.holds t ∙ ap (λ b. first_fault (additions b false l.body)) d.stands.body in
      let terms : q ≡ first_fault (map (term_check l.left) (terms_from (body_place l) l.body)) =
      g l.body x.parsed.body d.stands.holds t refl l.left h.formed.left (subst (λ vs. SetOf vs left) (left_is s x l h d) set)
      ∙ ap (λ b. first_fault (map (term_check l.left) (terms_from b l.body))) d.stands.body in
      e ∙ ap (λ o. leftmost o q) sums ∙ ap (leftmost (first_fault (additions (body_place l) false l.body))) terms

-- the limits
module _ (s : List ℕ) (x : Record) (l : Syntax) (h : Spells s l) (d : Describes x l) where
  ninth_is : map (λ e. e.place) (entries x.accesses) ≡ map (λ a. a.place) (placed_accesses l)
  ninth_is = ap (map (λ e. e.place)) d.table ∙ sym (map_map (λ e. e.place) entry (placed_accesses l))

  left_crowded : crowded s x.left ≡ beyond 3 (places (left_vars l))
  left_crowded = ap (λ vs. beyond 3 (places (placed_vars x.left.place vs))) (left_is s x l h d) ∙ ap (λ v. beyond 3 (places (placed_vars v.place l.left))) d.left

  fourths : PlacedAccess → List Check
  fourths a = beyond 3 (places (access_vars a))

  all_crowded : flat_map (λ e. crowded s e.vars) (entries x.accesses) ≡ flat_map (λ a. beyond 3 (places (access_vars a))) (placed_accesses l)
  unfolding fourths
  all_crowded = ap (flat_map (λ e. crowded s e.vars)) d.table ∙ sym (joined_map (λ e. crowded s e.vars) entry (placed_accesses l)) ∙ listed_each s x l h d fourths

  argument_is : option_or (first_fault (crowded s x.left)) (first_fault (flat_map (λ e. crowded s e.vars) (entries x.accesses))) ≡ first_fault (beyond 3 (places (left_vars l)) ++ flat_map (λ a. beyond 3 (places (access_vars a))) (placed_accesses l))
  argument_is =
      ap (λ cs. option_or (first_fault cs) (first_fault (flat_map (λ e. crowded s e.vars) (entries x.accesses)))) left_crowded
      ∙ ap (λ cs. option_or (first_fault (beyond 3 (places (left_vars l)))) (first_fault cs)) all_crowded
      ∙ sym (first_fault_append (beyond 3 (places (left_vars l))) (flat_map (λ a. beyond 3 (places (access_vars a))) (placed_accesses l)))

  pub limits_rule : (a b c e p q r : Option ℕ)
      → a ≡ first_fault (beyond 8 (map (λ y. y.place) (entries x.accesses)))
      → b ≡ first_fault (beyond 4 (places (firsts [] (letters 0 s))))
      → c ≡ option_or (first_fault (crowded s x.left)) (first_fault (flat_map (λ y. crowded s y.vars) (entries x.accesses)))
      → Deep x.parsed.arena.nodes x.parsed.root 0 e
      → p ≡ leftmost c e → q ≡ leftmost b p → r ≡ leftmost a q → r ≡ over_limits l
  limits_rule a b c e p q r ea eb ec ee ep eq er =
      let na : a ≡ first_fault (beyond 8 (map (λ y. y.place) (placed_accesses l))) = ea ∙ ap (λ ps. first_fault (beyond 8 ps)) ninth_is in
      let nb : b ≡ first_fault (beyond 4 (places (firsts [] (all_vars l)))) = eb ∙ ap (λ vs. first_fault (beyond 4 (places (firsts [] vs)))) (letters_line s l h) in
      let nc : c ≡ first_fault (beyond 3 (places (left_vars l)) ++ flat_map (λ y. beyond 3 (places (access_vars y))) (placed_accesses l)) = ec ∙ argument_is in
      let ne : e ≡ first_fault (map too_deep (openings (body_place l) 0 l.body)) =
      ee l.body x.parsed.body d.stands.holds ∙ ap (λ b. first_fault (map too_deep (openings b 0 l.body))) d.stands.body in
      er ∙ ap (λ o. leftmost o q) na ∙ ap (leftmost (first_fault (beyond 8 (map (λ y. y.place) (placed_accesses l)))))
      (eq ∙ ap (λ o. leftmost o p) nb ∙ ap (leftmost (first_fault (beyond 4 (places (firsts [] (all_vars l))))))
      (ep ∙ ap (λ o. leftmost o e) nc ∙ ap (leftmost (first_fault (beyond 3 (places (left_vars l)) ++ flat_map (λ y. beyond 3 (places (access_vars y))) (placed_accesses l)))) ne))
