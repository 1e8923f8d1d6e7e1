-- Operands read one by one, and commands told apart by their bytes.
use Rattle.std.proofs.Common.{◌≡◌, ℕ, zero, suc, ◌+◌, ◌≤◌, cond, eqb, List, [], ◌∷◌, ◌++◌, length, get_or, drop, Some, None, Option, sym, refl, ap, subst, ◌∙◌, arith, length-append}
use Rattle.std.proofs.Math.Nat.{ℕ_set}
use Rattle.std.proofs.lemmas.List.{append_assoc, drop_at}
use Rattle.commands.specs.declared.command.Command.{Command}
use Rattle.commands.specs.declared.command.Padded.{Padded}
use Rattle.commands.specs.declared.command.Command.TheVariants.{Root, Scan, Meet, Join, Align, Repeat, Load, Mul, Add, Sum, Write}
use Rattle.commands.specs.Bytes.{bytes, operands}
use Rattle.commands.specs.Held.{streams_held, keys_held}

-- n elements from the ith on, one by one
abbrev pub spread : ℕ → ℕ → List ℕ → List ℕ
spread zero i xs = []
spread (suc n) i xs = get_or xs i 0 ∷ spread n (suc i) xs

spread_shift : (n i x : ℕ) (xs : List ℕ) → spread n (suc i) (x ∷ xs) ≡ spread n i xs
spread_shift zero i x xs = refl
spread_shift (suc n) i x xs = ap (λ ys. get_or xs i 0 ∷ ys) (spread_shift n (suc i) x xs)

pub spread_all : (n : ℕ) (xs : List ℕ) → length xs ≡ n → spread n 0 xs ≡ xs
spread_all zero [] h = refl
spread_all zero (x ∷ xs) h = absurd (omega arith)
spread_all (suc n) [] h = absurd (omega arith)
spread_all (suc n) (x ∷ xs) h = ap (λ ys. x ∷ ys) (spread_shift n 0 x xs ∙ spread_all n xs (omega arith))

-- those that stand first, one by one
spread_front : (n : ℕ) (xs rest : List ℕ) → length xs ≡ n → spread n 0 (xs ++ rest) ≡ xs
spread_front zero [] rest h = refl
spread_front zero (x ∷ xs) rest h = absurd (omega arith)
spread_front (suc n) [] rest h = absurd (omega arith)
spread_front (suc n) (x ∷ xs) rest h = ap (λ ys. x ∷ ys) (spread_shift n 0 x (xs ++ rest) ∙ spread_front n xs rest (omega arith))

-- rows of one length are equal where their bytes are
whole_is : (n : ℕ) {xs ys : List ℕ} (p : length xs ≡ n) (q : length ys ≡ n) → xs ≡ ys → ◌≡◌ {A = Padded n} (record { bytes = xs; whole = p }) (record { bytes = ys; whole = q })
whole_is n {xs} p q e =
    let P : List ℕ → Type 0 = λ zs. (h : length zs ≡ n) → ◌≡◌ {A = Padded n} (record { bytes = xs; whole = p }) (record { bytes = zs; whole = h }) in
    subst P e (λ h. ap (λ w. record { bytes = xs; whole = w }) (ℕ_set _ _ p h)) q

pub padded_is : {n : ℕ} (x y : Padded n) → x.bytes ≡ y.bytes → x ≡ y
padded_is {n} x y e = whole_is n x.whole y.whole e

-- the byte of a command says how many operands follow
operands_of : (c : Command) (rest : List ℕ) → (n : ℕ) × (operands (get_or (bytes c ++ rest) 0 0) ≡ Some n) × (length (bytes c) ≡ n + 1)
operands_of (Root out) rest = (1, refl, refl)
operands_of (Scan t l r c k) rest = (5, refl, refl)
operands_of (Meet a b out) rest = (3, refl, refl)
operands_of (Join a b out) rest = (3, refl, refl)
operands_of (Align c r z out) rest = (4, refl, refl)
operands_of (Repeat r z out) rest = (3, refl, refl)
operands_of (Load t r out) rest = (3, refl, refl)
operands_of (Mul a b out) rest = (3, refl, refl)
operands_of (Add a b out) rest = (3, refl, refl)
operands_of (Sum a out) rest = (2, refl, refl)
operands_of (Write d v zs ks) rest =
    let n : length (zs.bytes ++ ks.bytes) ≡ 7 = omega (arith, length-append zs.bytes ks.bytes, zs.whole, ks.whole) in (9, refl, ap (λ k. suc (suc (suc k))) n)

-- bytes that are too short for their first byte begin with no command
pub cut_off : (s : List ℕ) (n : ℕ) → operands (get_or s 0 0) ≡ Some n → length s ≤ n → (c : Command) (rest : List ℕ) → s ≡ bytes c ++ rest → ⊥
cut_off s n o h c rest e =
    let p = operands_of c rest in
    let q : operands (get_or (bytes c ++ rest) 0 0) ≡ Some n = ap (λ (x : List ℕ). operands (get_or x 0 0)) (sym e) ∙ o in
    let same : n ≡ p.0 = let a = p.1 in cc in
    omega (arith, ap length e, length-append (bytes c) rest, p.2)

-- the command that bytes begin with, if any
picked : List ℕ → Command
picked s =
    let op = get_or s 0 0 in
    let a = get_or s 1 0 in
    let b = get_or s 2 0 in
    let d = get_or s 3 0 in
    cond (eqb op 1) (Root a) (cond (eqb op 2) (Scan a b d (get_or s 4 0) (get_or s 5 0)) (cond (eqb op 3) (Meet a b d) (cond (eqb op 4) (Join a b d)
    (cond (eqb op 5) (Align a b d (get_or s 4 0)) (cond (eqb op 6) (Repeat a b d) (cond (eqb op 7) (Load a b d) (cond (eqb op 8) (Mul a b d)
    (cond (eqb op 9) (Add a b d) (cond (eqb op 10) (Sum a b) (Write a b (streams_held (drop 3 s)) (keys_held (drop 7 s))))))))))))

picked_is : (c : Command) (rest : List ℕ) → picked (bytes c ++ rest) ≡ c
unfolding picked
picked_is (Root out) rest = refl
picked_is (Scan t l r c k) rest = refl
picked_is (Meet a b out) rest = refl
picked_is (Join a b out) rest = refl
picked_is (Align c r z out) rest = refl
picked_is (Repeat r z out) rest = refl
picked_is (Load t r out) rest = refl
picked_is (Mul a b out) rest = refl
picked_is (Add a b out) rest = refl
picked_is (Sum a out) rest = refl
picked_is (Write d v zs ks) rest =
    let tail = (zs.bytes ++ ks.bytes) ++ rest in
    let e = append_assoc zs.bytes ks.bytes rest in
    let a : streams_held tail ≡ zs = padded_is _ zs (ap (spread 4 0) e ∙ spread_front 4 zs.bytes (ks.bytes ++ rest) zs.whole) in
    let b : keys_held (drop 4 tail) ≡ ks =
    padded_is _ ks (ap (λ x. spread 3 0 (drop 4 x)) e ∙ ap (spread 3 0) (drop_at zs.bytes (ks.bytes ++ rest) 4 zs.whole) ∙ spread_front 3 ks.bytes rest ks.whole) in
    ap (λ z. Write d v z (keys_held (drop 4 tail))) a ∙ ap (Write d v zs) b

-- no command's bytes begin with another's
pub prefix_free : (c d : Command) (p q : List ℕ) → bytes c ++ p ≡ bytes d ++ q → c ≡ d
prefix_free c d p q e = sym (picked_is c p) ∙ ap picked e ∙ picked_is d q

-- no command's bytes begin with the end's
pub not_end : (c : Command) (rest : List ℕ) → get_or (bytes c ++ rest) 0 0 ≡ 0 → ⊥
not_end c rest e =
    let p = operands_of c rest in
    let a = p.1 in
    let q : operands (get_or (bytes c ++ rest) 0 0) ≡ None = ap operands e in
    let z : ◌≡◌ {A = Option ℕ} (Some p.0) None = sym a ∙ q in
    let y : ◌≡◌ {A = ℕ} 0 1 = cc in omega arith

-- nor do no bytes, or a byte that no block has, begin with a command
pub nothing : (s : List ℕ) → length s ≡ 0 → (c : Command) (rest : List ℕ) → s ≡ bytes c ++ rest → ⊥
nothing s h c rest e = omega (arith, ap length e, length-append (bytes c) rest, (operands_of c rest).2)

pub no_block : (s : List ℕ) → operands (get_or s 0 0) ≡ None → (c : Command) (rest : List ℕ) → s ≡ bytes c ++ rest → ⊥
no_block s o c rest e =
    let p = operands_of c rest in
    let z : ◌≡◌ {A = Option ℕ} (Some p.0) None = sym p.1 ∙ ap (λ (x : List ℕ). operands (get_or x 0 0)) (sym e) ∙ o in
    let y : ◌≡◌ {A = ℕ} 0 1 = cc in omega arith
