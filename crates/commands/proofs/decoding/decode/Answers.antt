use Rattle.std.proofs.Common.{◌≡◌, ℕ, ◌+◌, ◌-◌, ◌<◌, List, [], ◌∷◌, ◌++◌, length, get_or, take, drop, Some, None, Ok, Err, sym, refl, ap, ◌∙◌, arith}
use Rattle.std.proofs.lemmas.List.{take-append-drop}
use Rattle.commands.specs.declared.command.UnknownCommand.{UnknownCommand}
use Rattle.commands.specs.Bytes.{bytes, operands, Rereads}
use Rattle.commands.proofs.Operands.{cut_off, no_block, nothing, prefix_free, not_end}
use Rattle.commands.proofs.Kept.{reads_model}
use Rattle.commands.proofs.decoding.decode.Goals as goal

-- a list that is not empty, by its first element
first_on : (s : List ℕ) → 0 < length s → s ≡ get_or s 0 0 ∷ drop 1 s
first_on [] h = absurd (omega arith)
first_on (x ∷ s) h = refl

unknown : UnknownCommand
unknown = record {}

pub returns-then-bytes-eq0 : goal.returns-then-bytes-eq0
returns-then-bytes-eq0 c =
    let s = c.args.bytes.now in
    let none = nothing s c.if-bytes-eq0.true in
    let again : Rereads s (Err unknown) = λ d rest e. absurd (none d rest e) in
    record { begins = (none, λ rest e. omega (arith, ap length e)); rereads = again; model = reads_model s (Err unknown) again }

pub returns-then-op-eq0 : goal.returns-then-op-eq0
returns-then-op-eq0 c =
    let s = c.args.bytes.now in
    let again : Rereads s (Ok None) = λ d rest e. absurd (not_end d rest (ap (λ (x : List ℕ). get_or x 0 0) (sym e) ∙ c.if-op-eq0.true)) in
    record {
      begins = (drop 1 s, first_on s (omega arith) ∙ ap (λ b. b ∷ drop 1 s) c.if-op-eq0.true);
      rereads = again;
      model = reads_model s (Ok None) again;
    }

pub returns-in_default : goal.returns-in_default
returns-in_default c =
    let s = c.args.bytes.now in
    let none = no_block s (sym c.operand_count.ensures ∙ c.in_default.is) in
    let again : Rereads s (Err unknown) = λ d rest e. absurd (none d rest e) in
    record {
      begins = (none, λ rest e. c.if-op-eq0.false (ap (λ (x : List ℕ). get_or x 0 0) e));
      rereads = again;
      model = reads_model s (Err unknown) again;
    }

pub returns-then-bytes-count : goal.returns-then-bytes-count
returns-then-bytes-count c =
    let s = c.args.bytes.now in
    let o : operands (get_or s 0 0) ≡ Some c.in-Some.count = sym c.operand_count.ensures ∙ c.in-Some.is in
    let cut = cut_off s c.in-Some.count o c.if-bytes-count.true in
    let again : Rereads s (Err unknown) = λ d rest e. absurd (cut d rest e) in
    record {
      begins = (cut, λ rest e. c.if-op-eq0.false (ap (λ (x : List ℕ). get_or x 0 0) e));
      rereads = again;
      model = reads_model s (Err unknown) again;
    }

pub returns : goal.returns
returns c =
    let s = c.args.bytes.now in
    let n = c.in-Some.count in
    let k = c.build.result in
    let split : s ≡ (get_or s 0 0 ∷ take n (drop 1 s)) ++ drop n (drop 1 s) =
    first_on s (omega arith) ∙ ap (λ x. get_or s 0 0 ∷ x) (sym (take-append-drop n (drop 1 s))) in
    let count : (n + 1) - 1 ≡ n = omega arith in
    let built : bytes k ≡ get_or s 0 0 ∷ take n (drop 1 s) = c.build.ensures ∙ ap (λ (m : ℕ). get_or s 0 0 ∷ take m (drop 1 s)) count in
    let whole : s ≡ bytes k ++ drop n (drop 1 s) = split ∙ ap (λ x. x ++ drop n (drop 1 s)) (sym built) in
    let again : Rereads s (Ok (Some k)) =
    λ d rest e. ap (λ x. Ok (Some x)) (prefix_free k d (drop n (drop 1 s)) rest (sym whole ∙ e)) in
    record { begins = (drop n (drop 1 s), whole); rereads = again; model = reads_model s (Ok (Some k)) again }
