use Rattle.std.proofs.Common.{◌≡◌, ℕ, ◌+◌, ◌-◌, ◌<◌, ◌≤◌, get_or, Some, ap, ◌∙◌, arith}
use Rattle.model.specs.Formats.{position, coordinate_word}
use Rattle.formats.specs.Sizes.{size_of}
use Rattle.formats.specs.Rows.{rows_at, rows_at_past, rows_at_none}
use Rattle.formats.proofs.compressed.CompressedFormat.at.Goals as goal

pub returns-in_err-from : goal.returns-in_err-from
returns-in_err-from c = c.from_residual.ensures ∙ rows_at_none _ _ _ _ _ c.in_err-from.ensures

pub returns-then-n-len : goal.returns-then-n-len
returns-then-n-len c =
    let ws = c.args.words.now in
    let s = c.in_ok-from.ensures in
    let le : position ws (c.args.p + 1) - position ws c.args.p ≤ c.args.n = omega arith in
    rows_at_past c.args.size.fibers (λ p. position ws (p + 1) - position ws p) _ c.args.p c.args.n s.0 le

pub returns : goal.returns
returns c =
    let ws = c.args.words.now in
    let p = c.args.p in
    let f = c.args.size.fibers in
    let s = c.in_ok-from.ensures in
    let lt : c.args.n < position ws (p + 1) - position ws p = omega arith in
    let w : c.word.result ≡ coordinate_word (size_of c.args.size) ws (position ws p + c.args.n) =
    c.word.ensures ∙ ap (λ (k : ℕ). get_or ws (f + 1 + (k + c.args.n)) 0) s.1 in
    let e : Some (c.word.result, c.in_ok-from.from + c.args.n) ≡ Some (coordinate_word (size_of c.args.size) ws (position ws p + c.args.n), position ws p + c.args.n) = cc (s.1, w) in
    e ∙ rows_at f (λ p. position ws (p + 1) - position ws p) (λ p k. (coordinate_word (size_of c.args.size) ws (position ws p + k), position ws p + k)) p c.args.n s.0 lt
