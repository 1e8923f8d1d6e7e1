use Rattle.std.proofs.Common.{not, ◌||◌, length, sym, ap, ◌∙◌}
use Rattle.model.specs.Conditions.{repeats}
use Rattle.reader.specs.Lists.{vars_of}
use Rattle.lines.proofs.Listing.{length_placed}
use Rattle.lines.proofs.misfits.misfits.Goals as goal

pub returns-then-not-fits : goal.returns-then-not-fits
returns-then-not-fits c =
    let vs = vars_of c.args.text.now c.args.access.vars in
    let many = sym (length_placed c.args.access.vars.place vs) ∙ sym (ap length c.vars.ensures) ∙ sym c.len-count.ensures in
    ap not c.if-not-fits.true ∙ sym (ap (λ b. not b || repeats vs) (sym (c.fits.ensures vs many) ∙ c.if-not-fits.true))

pub returns-else-not-fits : goal.returns-else-not-fits
returns-else-not-fits c =
    let vs = vars_of c.args.text.now c.args.access.vars in
    let many = sym (length_placed c.args.access.vars.place vs) ∙ sym (ap length c.vars.ensures) ∙ sym c.len-count.ensures in
    c.repeats_one.ensures ∙ sym (ap (λ b. not b || repeats vs) (sym (c.fits.ensures vs many) ∙ c.if-not-fits.false))
