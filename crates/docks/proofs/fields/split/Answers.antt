use Rattle.std.proofs.Common.{◌≡◌, ℕ, Bool, true, false, not, List, [], ◌∷◌, Bor, Some, None, Err, Option, MatchOption}
use Rattle.std.specs.Option.{option_map, is_some}
use Rattle.std.specs.Bool.{then_some}
use Rattle.std.proofs.lemmas.Bool.{true≢false, false≢true}
use Rattle.docks.specs.Pieces.{Cut}
use Rattle.docks.specs.Tables.{fields, of_fields}
use Rattle.docks.specs.declared.fault.TableFault.TheVariants.{Fields}
use Rattle.docks.proofs.Cuts.{one_field, two_fields, three_fields, four_fields}
use Rattle.docks.proofs.fields.split.Goals as goal

-- three fields where the third is not cut again, else more
third : (line : List ℕ) (t : Bor (List ℕ) × Bor (List ℕ) × Bor (List ℕ)) (last : Bool) (o : Option (Bor (List ℕ) × Bor (List ℕ)))
    → ((p : List ℕ × List ℕ) → Cut 32 t.2.now (Some p) → of_fields (fields line) ≡ Err Fields) → (Cut 32 t.2.now None → fields line ≡ t.0.now ∷ t.1.now ∷ t.2.now ∷ [])
    → Cut 32 t.2.now (option_map (λ p. (p.0.now, p.1.now)) o) → is_some o ≡ not last
    → MatchOption (then_some last t) (of_fields (fields line) ≡ Err Fields) (λ u. fields line ≡ u.0.now ∷ u.1.now ∷ u.2.now ∷ [])
third line t true None four three h e = three h
third line t false None four three h e = absurd (false≢true e)
third line t true (Some p) four three h e = absurd (true≢false e)
third line t false (Some p) four three h e = four _ h

pub returns-in_err-name : goal.returns-in_err-name
returns-in_err-name c = rw c.from_residual.ensures (one_field c.args.line.now c.in_err-name.ensures)

pub returns-in_err-leg_in : goal.returns-in_err-leg_in
returns-in_err-leg_in c = rw c.from_residual-in_err-leg_in.ensures (two_fields c.args.line.now _ c.in_ok-name.ensures c.in_err-leg_in.ensures)

pub returns : goal.returns
returns c =
    let line = c.args.line.now in
    let name = c.in_ok-name in
    let leg = c.in_ok-leg_in in
    rw c.then_some.ensures (third line (name.name, leg.leg_in, leg.leg_out) c.is_none.result c.cut-3.result (four_fields line _ name.ensures _ leg.ensures) (three_fields line _ name.ensures _ leg.ensures) c.cut-3.ensures c.is_none.ensures)
