-- A text in two at a byte: what the search for it finds. Assumes nothing.
use Rattle.std.specs.Prelude.{◌≡◌, ℕ, ◌+◌, ◌<◌, not, List, length, take, drop, Some, None, Option, ◌==◌}
use Rattle.std.specs.List.{prefix_len}

-- how many bytes stand before the first b; all of them where there is none
abbrev pub before : ℕ → List ℕ → ℕ
before b bs = prefix_len (λ x. not (x == b)) bs

-- a text in two at the first b
abbrev pub Cut : ℕ → List ℕ → Option (List ℕ × List ℕ) → Type 0
Cut b bs None = before b bs ≡ length bs
Cut b bs (Some p) = (before b bs < length bs) × (p.0 ≡ take (before b bs) bs) × (p.1 ≡ drop (before b bs + 1) bs)
