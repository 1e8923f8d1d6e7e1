-- What BUILD leaves in the words that it is lent.
use Rattle.std.specs.Prelude.{◌≡◌, ℕ, ◌<◌, ◌≤◌, List, length, take, drop}
use Rattle.model.specs.Fibers.{Level}
use Rattle.model.specs.Formats.{Includes}

-- Accepted: the level in the first `want` words, which holds each coordinate of the lists in its fiber, and the rest as it was.
pub record Built (want : ℕ) (kept : List ℕ → Type 0) (meaning : List ℕ → Level) (owners coordinates before after : List ℕ) : Type 0 where
  pub room : want ≤ length before
  pub sound : kept (take want after)
  pub held : Includes owners coordinates (meaning (take want after))
  pub rest : drop want after ≡ drop want before

-- Refused, for want of room: the two numbers, and no word changed.
pub record Refused (want need free : ℕ) (before after : List ℕ) : Type 0 where
  pub short : length before < want
  pub needs : need ≡ want
  pub frees : free ≡ length before
  pub same : after ≡ before
