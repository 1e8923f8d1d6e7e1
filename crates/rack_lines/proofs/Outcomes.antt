-- What COMPILE comes to: refused while a graph is under way, refused for its line, or accepted. Assumes nothing.
use Rattle.std.proofs.Common.{◌≡◌, ℕ, Bool, true, false, List, length, get_or, None, MatchBool, sym, refl, ap, ◌∙◌, subst, arith}
use Rattle.std.specs.Option.{option_map}
use Rattle.model.specs.Semirings.{Algebra}
use Rattle.model.specs.Fibers.{Level}
use Rattle.model.specs.Formats.{LevelSize}
use Rattle.model.specs.Grammar.{Syntax}
use Rattle.model.specs.Conditions
use Rattle.model.specs.Conditions.{Slots, LineFault, Outcome, accepted, Accepts, Refuses, Reads}
use Rattle.model.specs.Meaning.{extents_seen}
use Rattle.model.specs.Calls.{COMPILE, Fault, busy, line, Answer, compiled, refused}
use Rattle.model.specs.Stores.{FormatRules}
use Rattle.model.specs.Books.{Book, tensors_of, compile_answer, Answers, compile, refuse}
use Rattle.slots.specs.Records.{extents}
use Rattle.streams.specs.declared.record.Tapes.{Tapes}
use Rattle.streams.specs.Records.{Empty}
use Rattle.graphs.specs.declared.graph.Graph.{Graph}
use Rattle.graphs.specs.Lowers.{Lowers}
use Rattle.rack_state.specs.Snapshots.{Snapshot}
use Rattle.rack_state.specs.Mirrors.{Mirrors}
use Rattle.rack_state.specs.Does.{Does}
use Rattle.rack_state.specs.Busy.{under_way}
use Rattle.rack_lines.proofs.Booked.{busy_as, seen_as}
use Rattle.rack_lines.proofs.Loads.{with_graph, with_line, mirrors_line}

not_refused : {V : Type 0} (n : ℕ) (f : Fault) → ◌≡◌ {A = Answer V} (compiled n) (refused f) → ⊥
not_refused n f e = let z : ◌≡◌ {A = ℕ} 0 1 = cc in omega arith

-- what COMPILE answers over the slots that are seen, busy or not
abbrev Compiles : {V : Type 0} → Slots → List ℕ → Answer V → Bool → Type 0
Compiles see text a is = MatchBool is (a ≡ refused busy) ((o : Outcome) × Reads see text o × (a ≡ compile_answer o))

-- where no graph is under way, what is read is what the book answers
answers : {P V : Type 0} (K : Algebra V) (reads : P → V) (rules : FormatRules) (meaning : ℕ → LevelSize → List ℕ → Level) (s : Snapshot P) → under_way s.loaded s.commands ≡ false
    → (b : Book V) → Mirrors K reads rules meaning b s → (text : List ℕ) (a : Answer V) (o : Outcome) → Reads (extents_seen (tensors_of b.slots)) text o → a ≡ compile_answer o → Answers K s.sizes rules b (COMPILE text) a
answers K reads rules meaning s idle b m text a o r e = subst (Compiles (extents_seen (tensors_of b.slots)) text a) (sym (busy_as K reads rules meaning s b m ∙ idle)) (o, r, e)

module _ {P V : Type 0} {K : Algebra V} {reads : P → V} {rules : FormatRules} {meaning : ℕ → LevelSize → List ℕ → Level} {text : List ℕ} {s : Snapshot P} where
  pub refused_busy : under_way s.loaded s.commands ≡ true → Does K reads rules meaning (COMPILE text) s (refused busy) s
  refused_busy h =
      record {
        unchanged = λ f e. refl;
        stays = record { sizes = refl; slots = refl; words = refl; values = refl; keys = refl; sums = refl };
        by_book = λ b m. (
          subst (Compiles {V = V} (extents_seen (tensors_of b.slots)) text (refused busy)) (sym (busy_as K reads rules meaning s b m ∙ h)) refl,
          (b, refuse (COMPILE text) busy, m),
        );
      }

  module _ (idle : under_way s.loaded s.commands ≡ false) (see : Slots) (seen : (n : ℕ) → see n ≡ option_map extents (get_or s.slots.records n None)) where
    pub refused_line : (f : LineFault) → Refuses see text f → Does K reads rules meaning (COMPILE text) s (refused (line f)) s
    refused_line f r =
        record {
          unchanged = λ f e. refl;
          stays = record { sizes = refl; slots = refl; words = refl; values = refl; keys = refl; sums = refl };
          by_book = λ b m. (
            answers K reads rules meaning s idle b m text (refused (line f)) (Conditions.refused f) (subst (λ x. Refuses x text f) (seen_as K reads rules meaning s b m see seen) r) refl,
            (b, refuse (COMPILE text) (line f), m),
          );
        }

    pub accepted_line : {before after : Graph} {tapes : Tapes} {left n : ℕ} (l : Syntax) → Accepts see text l → Lowers l before after n → left ≡ length l.left → Empty tapes → Does K reads rules meaning (COMPILE text) s (compiled n) (with_graph s after tapes left)
    accepted_line {before} {after} {tapes} {left} {n} l a low many empty =
        record {
          unchanged = λ f e. absurd (not_refused n f e);
          stays = record { sizes = refl; slots = refl; words = refl; values = refl; keys = refl; sums = refl };
          by_book = λ b m.
              let booked = subst (λ x. Accepts x text l) (seen_as K reads rules meaning s b m see seen) a in (
                answers K reads rules meaning s idle b m text (compiled n) (accepted l) booked (ap compiled low.commands),
                (with_line b l, compile text n l booked, mirrors_line K reads rules meaning s before after tapes left n text l low many empty b m booked),
              );
        }
