-- The table of accesses, one node on. Assumes nothing.
use Rattle.std.proofs.Common.{◌≡◌, ℕ, ◌+◌, ◌-◌, ◌*◌, ◌^◌, ◌<◌, ◌≤◌, List, [], ◌∷◌, ◌++◌, map, length, sym, refl, ap, ◌∙◌, subst, ⊎_elim, arith, length-append}
use Rattle.std.proofs.lemmas.List.{append_assoc, map-append, length-map}
use Rattle.reader.specs.declared.node.Node.{Node}
use Rattle.reader.specs.declared.node.Node.TheVariants.{Access, Group}
use Rattle.model.specs.Grammar.{Tree, access, group, times, plus, text}
use Rattle.model.specs.Reading.{accesses_from}
use Rattle.model.proofs.Faults.{all_append, all_front, all_back}
use Rattle.reader.specs.Order.{Before}
use Rattle.reader.specs.Nodes.{node}
use Rattle.reader.proofs.Ordered.{nowhere}
use Rattle.reader.proofs.Views.{at_access, at_group}
use Rattle.lines.specs.declared.accesses.Access.{Access as Entry}
use Rattle.lines.specs.declared.accesses.Accesses.{Accesses}
use Rattle.lines.specs.Tables.{entries, entry, Added, Placeable, FitsIn, HasRoom, Collected}
use Rattle.lines.proofs.Nodes.{Joins, Joined, times_joins, plus_joins}

pub few_accesses : (t : Tree) (at : ℕ) → 3 * length (accesses_from at t) ≤ length (text t)
few_accesses (access l vs) at = simp length-append (omega arith)
few_accesses (group t) at = let h = few_accesses t (at + 1) in simp length-append (omega arith)
few_accesses (times a b) at = let g = few_accesses a at in let h = few_accesses b (at + length (text a) + 1) in simp length-append (omega arith)
few_accesses (plus a b) at = let g = few_accesses a at in let h = few_accesses b (at + length (text a) + 1) in simp length-append (omega arith)

pub join_long : (sep : ℕ) (a b : Tree) → length (text a ++ (sep ∷ text b)) ≡ length (text a) + 1 + length (text b)
join_long sep a b = length-append (text a) (sep ∷ text b) ∙ omega arith

pub group_short : (t : Tree) (at : ℕ) → at + length (text (group t)) ≤ 256 → at + 1 + length (text t) ≤ 256
group_short t at h = omega (arith, simp length-append at h)

placeable : (t : Tree) (at : ℕ) → at + length (text t) ≤ 256 → Placeable (accesses_from at t)
placeable (access l vs) at h = (omega (arith, simp length-append at h), tt)
placeable (group t) at h = placeable t (at + 1) (group_short t at h)
placeable (times a b) at h =
    let long = join_long 42 a b in
    all_append _ (accesses_from at a) _ (placeable a at (omega (arith, h, long))) (placeable b (at + length (text a) + 1) (omega (arith, h, long)))
placeable (plus a b) at h =
    let long = join_long 43 a b in
    all_append _ (accesses_from at a) _ (placeable a at (omega (arith, h, long))) (placeable b (at + length (text a) + 1) (omega (arith, h, long)))

pub has_room : (o : Accesses) (t : Tree) (at : ℕ) → FitsIn o at t → HasRoom o at t
has_room o t at h = (h.0, placeable t at h.1)

added_on : (o p q : Accesses) (es fs : List Entry) → Added o p es → Added p q fs → Added o q (es ++ fs)
added_on o p q es fs g h = record {
  list = h.list ∙ ap (λ x. x ++ fs) g.list ∙ append_assoc (entries o) es fs;
  len = simp length-append (omega (arith, g.len, h.len));
}

module _ (ns : List Node) (i : ℕ) where
  pub collected_none : (old new : Accesses) → (Before (node ns i) i → ⊥) → Collected ns i old new
  collected_none old new nay = nowhere (λ at t. HasRoom old at t → Added old new (map entry (accesses_from at t))) ns i nay

  pub collected_access : (p k n : ℕ) (old new : Accesses) → node ns i ≡ Access p k n → (old.len < 128 → p + 2 < 2 ^ 64 → Added old new (record { place = p; slot = k; vars = record { place = p + 2; count = n } } ∷ [])) → Collected ns i old new
  collected_access p k n old new e h =
      at_access (λ at t. HasRoom old at t → Added old new (map entry (accesses_from at t))) ns i p k n e
      (λ l vs x y fits.
      let added = h (omega (arith, fits.0)) fits.1.0 in
      subst (λ m. Added old new (record { place = p; slot = l - 65; vars = record { place = p + 2; count = m } } ∷ [])) (sym y) (subst (λ m. Added old new (record { place = p; slot = m; vars = record { place = p + 2; count = n } } ∷ [])) (sym x) added))

  pub collected_group : (p j : ℕ) (old new : Accesses) → node ns i ≡ Group p j → Collected ns j old new → Collected ns i old new
  collected_group p j old new e h =
      at_group (λ at t. HasRoom old at t → Added old new (map entry (accesses_from at t))) ns i p j e
      (λ u lt g fits. h u (p + 1) g (omega (arith, fits.0), fits.1))

  module _ (join : Tree → Tree → Tree) (are : (a b : Tree) (at : ℕ) → accesses_from at (join a b) ≡ accesses_from at a ++ accesses_from (at + length (text a) + 1) b) (j k : ℕ) (joins : Joins join ns i j k) where
    many : (a b : Tree) (at : ℕ) → length (accesses_from at (join a b)) ≡ length (accesses_from at a) + length (accesses_from (at + length (text a) + 1) b)
    many a b at = ap length (are a b at) ∙ length-append (accesses_from at a) (accesses_from (at + length (text a) + 1) b)

    pub collected_both : (old mid new : Accesses) → Collected ns j old mid → Collected ns k mid new → Collected ns i old new
    collected_both old mid new g h =
        joins (λ at t. HasRoom old at t → Added old new (map entry (accesses_from at t)))
        (λ a b at lj lk ha hb fits.
        let left = accesses_from at a in
        let right = accesses_from (at + length (text a) + 1) b in
        let places = subst Placeable (are a b at) fits.1 in
        let half = g a at ha (omega (arith, fits.0, many a b at), all_front _ left right places) in
        let rest = h b (at + length (text a) + 1) hb (omega (arith, fits.0, many a b at, half.len, length-map left entry), all_back _ left right places) in
        subst (Added old new) (sym (ap (map entry) (are a b at) ∙ map-append entry left right)) (added_on old mid new (map entry left) (map entry right) half rest))

  pub collected_chain : (x : Node) (j k : ℕ) → x ≡ node ns i → Joined x j k → (old mid new : Accesses) → Collected ns j old mid → Collected ns k mid new → Collected ns i old new
  collected_chain x j k e is old mid new g h =
      ⊎_elim
      (λ f. collected_both times (λ a b at. refl) j k (times_joins ns i j k (sym e ∙ f)) old mid new g h)
      (λ f. collected_both plus (λ a b at. refl) j k (plus_joins ns i f.0 j k (sym e ∙ f.1)) old mid new g h)
      is
