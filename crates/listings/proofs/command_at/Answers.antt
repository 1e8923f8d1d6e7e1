use Rattle.std.proofs.Common.{◌≡◌, ℕ, ◌+◌, ◌-◌, ◌≤◌, List, length, take, drop, Some, Ok, Option, Result, sym, ap, subst, ◌∙◌, arith, length-append, length-drop}
use Rattle.std.proofs.lemmas.List.{take_rest}
use Rattle.commands.specs.declared.command.Command.{Command}
use Rattle.commands.specs.declared.command.Command.TheVariants.{Root, Scan, Meet, Join, Align, Repeat, Load, Mul, Add, Sum, Write}
use Rattle.commands.specs.declared.command.UnknownCommand.{UnknownCommand}
use Rattle.commands.specs.Bytes.{bytes, Begins}
use Rattle.commands.specs.Held.{held}
use Rattle.commands.proofs.Kept.{kept}
use Rattle.listings.proofs.command_at.Goals as goal

some_byte : (c : Command) → 1 ≤ length (bytes c)
some_byte (Root out) = omega arith
some_byte (Scan t l r c k) = omega arith
some_byte (Meet a b out) = omega arith
some_byte (Join a b out) = omega arith
some_byte (Align c r z out) = omega arith
some_byte (Repeat r z out) = omega arith
some_byte (Load t r out) = omega arith
some_byte (Mul a b out) = omega arith
some_byte (Add a b out) = omega arith
some_byte (Sum a out) = omega arith
some_byte (Write d v zs ks) = omega arith

abbrev Read : Type 0
Read = Result (Option Command) UnknownCommand

same : (o : Option Command) (c d : Command) → o ≡ Some c → ◌≡◌ {A = Read} (Ok o) (Ok (Some d)) → c ≡ d
same o c d h e = cc

begun : (s : List ℕ) (o : Option Command) (c : Command) → o ≡ Some c → Begins s (Ok o) → Begins s (Ok (Some c))
begun s o c h b = subst (λ (x : Option Command). Begins s (Ok x)) h b

pub returns : goal.returns
returns c =
    let s = c.args.bytes.now in
    let at = c.args.at in
    let k = c.in-Ok-Some.command in
    let tail : take (length s - at) (drop at s) ≡ drop at s = take_rest s at in
    let begins = begun _ _ k c.in-Ok-Some.field-0-is c.in-Ok-Some.ensures.begins in
    let long : length (bytes k) ≤ length s - at =
    omega (arith, ap length (sym tail ∙ begins.1), length-append (bytes k) begins.0, length-drop at s) in
    let size = c.len.ensures.value in
    record {
      forth = (omega (arith, some_byte k), omega (arith, some_byte k));
      stands = (omega arith, ap (λ n. at + n) size, (begins.0, sym tail ∙ begins.1));
      model = λ m rest small h e.
          let is : k ≡ held m = same _ k (held m) c.in-Ok-Some.field-0-is (c.in-Ok-Some.ensures.model m rest small (tail ∙ e)).0 in
          let next = ap (λ n. at + n) size ∙ ap (λ x. at + length (bytes x)) is ∙ ap (λ x. at + length x) (kept m).same in
          λ i. Some (record { command = is i; next = next i });
    }
