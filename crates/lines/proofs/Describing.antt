-- From what was parsed to the record of a line, and from that to its parts in the text. Assumes nothing.
use Rattle.std.proofs.Common.{◌≡◌, ℕ, ◌+◌, ◌-◌, ◌/◌, ◌≤◌, List, ◌++◌, map, length, take, sym, ap, ◌∙◌, subst, arith}
use Rattle.std.proofs.lemmas.List.{length-map}
use Rattle.reader.specs.declared.parsing.Parsed.{Parsed}
use Rattle.model.specs.Grammar.{Syntax, Vars}
use Rattle.model.specs.Reading.{body_place, order_place, accesses_from, placed_accesses}
use Rattle.model.specs.Conditions.{Spells}
use Rattle.reader.specs.Whole.{Stands}
use Rattle.reader.specs.declared.vars.VarList.{VarList}
use Rattle.reader.specs.Lists.{vars_of}
use Rattle.lines.specs.declared.accesses.Accesses.{Accesses}
use Rattle.lines.specs.declared.line.Syntax.{Syntax as Record}
use Rattle.lines.specs.Tables.{entries, entry, stood_for, Added, FitsIn, Collected}
use Rattle.lines.specs.Ties.{Tied}
use Rattle.lines.specs.Describes.{Describes}
use Rattle.lines.proofs.Collecting.{has_room}
use Rattle.lines.proofs.Tying.{entries_stand}
use Rattle.lines.proofs.Placing.{line_tied, left_count, order_count, left_listed, order_listed, accesses_few, body_short}

module _ (s : List ℕ) (x : Parsed) (l : Syntax) (h : Spells s l) (g : Stands x l) where
  pub left_described : ◌≡◌ {A = VarList} (record { place = 2; count = (x.body - 3) / 2 }) (record { place = 2; count = length l.left })
  left_described = ap (λ n. record { place = 2; count = n }) (ap (λ p. (p - 3) / 2) g.body ∙ left_count s l h)

  pub order_described : ◌≡◌ {A = VarList} (record { place = x.order; count = (length s + 1 - x.order) / 2 }) (record { place = order_place l; count = length l.order })
  order_described = ap (λ p. record { place = p; count = (length s + 1 - p) / 2 }) g.order ∙ ap (λ n. record { place = order_place l; count = n }) (order_count s l h)

  pub table_added : (old new : Accesses) → old.len ≡ 0 → Collected x.arena.nodes x.root old new → Added old new (map entry (placed_accesses l))
  table_added old new none c =
      let fits : FitsIn old x.body l.body = subst (λ p. FitsIn old p l.body) (sym g.body) (omega (arith, none, accesses_few s l h), body_short s l h) in
      subst (λ p. Added old new (map entry (accesses_from p l.body))) g.body (c l.body x.body g.holds (has_room old l.body x.body fits))

  pub table_described : (old new : Accesses) → old.len ≡ 0 → Collected x.arena.nodes x.root old new → entries new ≡ map entry (placed_accesses l)
  table_described old new none c = (table_added old new none c).list ∙ ap (λ n. take n old.list ++ map entry (placed_accesses l)) none

  pub table_room : (old new : Accesses) → old.len ≡ 0 → Collected x.arena.nodes x.root old new → new.len ≤ 128
  table_room old new none c = omega (arith, (table_added old new none c).len, none, accesses_few s l h, length-map (placed_accesses l) entry)

-- the parts of a record of a line
module _ (s : List ℕ) (x : Record) (l : Syntax) (h : Spells s l) (d : Describes x l) where
  pub body_tied : Tied s x.parsed.body l.body
  body_tied = subst (λ p. Tied s p l.body) (sym d.stands.body) (line_tied s l h)

  pub table_stands : map (stood_for s) (entries x.accesses) ≡ placed_accesses l
  table_stands = ap (map (stood_for s)) d.table ∙ entries_stand s l.body (body_place l) (line_tied s l h)

  pub left_is : vars_of s x.left ≡ l.left
  left_is = ap (vars_of s) d.left ∙ left_listed s l h

  pub order_is : vars_of s x.order ≡ l.order
  order_is = ap (vars_of s) d.order ∙ order_listed s l h

  pub left_vars_in : Vars (vars_of s x.left)
  left_vars_in = subst Vars (sym left_is) h.formed.left

  pub order_vars_in : Vars (vars_of s x.order)
  order_vars_in = subst Vars (sym order_is) h.formed.order
