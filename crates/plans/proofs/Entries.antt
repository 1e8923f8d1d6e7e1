-- Entries as rows of coordinates, and what their checks say.
use Rattle.std.proofs.Common.{◌≡◌, ℕ, zero, suc, ◌+◌, ◌*◌, ◌<◌, ◌≤◌, Bool, true, false, cond, not, ◌||◌, List, [], ◌∷◌, map, length, get_or, take, drop, Some, None, Option, sym, refl, ap, ◌∙◌, mul-le-mul_left, mul-zero, mul-suc, arith}
use Rattle.std.specs.List.{AllByRecursion, find, range_with_len}
use Rattle.std.proofs.ByRecursion.{All-weaker}
use Rattle.std.proofs.lemmas.List.{drop-drop, drop_more}
use Rattle.std.proofs.lemmas.Bool.{or_parts, not-false}
use Rattle.model.specs.Running.{before}
use Rattle.model.specs.Stores.{outside, after, entry_checks, entries_of}
use Rattle.model.specs.Conditions.{first_fault}
use Rattle.model.proofs.Tables.{before_trans}
use Rattle.plans.specs.Rows.{rows_of, nth_row, prior_row, Rising, Ordered}

pub rows_long : (r n : ℕ) (cs : List ℕ) → length (rows_of r n cs) ≡ n
rows_long r zero cs = refl
rows_long r (suc n) cs = ap suc (rows_long r n (drop r cs))

pub rows_at : (r n : ℕ) (cs : List ℕ) (k : ℕ) → k < n → get_or (rows_of r n cs) k [] ≡ nth_row r cs k
rows_at r zero cs k h = absurd (omega arith)
rows_at r (suc n) cs zero h = sym (ap (λ m. take r (drop m cs)) (mul-zero r))
rows_at r (suc n) cs (suc k) h =
    rows_at r n (drop r cs) k (omega arith) ∙ ap (take r) (drop-drop (r * k) r cs)
    ∙ ap (λ m. take r (drop m cs)) (let e : r + r * k ≡ r * suc k = omega (arith, mul-suc r k) in e)

pub rows_more : (r n : ℕ) (cs : List ℕ) (k : ℕ) → k < n → drop k (rows_of r n cs) ≡ nth_row r cs k ∷ drop (k + 1) (rows_of r n cs)
rows_more r n cs k h =
    drop_more (rows_of r n cs) k [] (omega (arith, rows_long r n cs)) ∙ ap (λ x. x ∷ drop (k + 1) (rows_of r n cs)) (rows_at r n cs k h)

-- row k lies within the coordinates of n rows
pub row_fits : (r n k : ℕ) → k < n → r * k + r ≤ r * n
row_fits r n k h = omega (arith, mul-suc r k, mul-le-mul_left {m = suc k} {n = n} r (omega arith))

pub entry_rows : {V : Type 0} (r : ℕ) (cs : List ℕ) (vs : List V) → map (λ e. e.0) (entries_of r cs vs) ≡ rows_of r (length vs) cs
entry_rows r cs [] = refl
entry_rows r cs (v ∷ vs) = ap (λ (l : List (List ℕ)). take r cs ∷ l) (entry_rows r (drop r cs) vs)

-- what checked entries keep
abbrev Follow : Option (List ℕ) → List (List ℕ) → Type 0
Follow None css = Unit {0}
Follow (Some p) css = AllByRecursion (λ ds. before p ds ≡ true) css

checked : (es : List ℕ) (k : ℕ) (prior : Option (List ℕ)) (css : List (List ℕ)) → first_fault (entry_checks es k prior css) ≡ None
    → AllByRecursion (λ cs. outside es cs ≡ false) css × Rising css × Follow prior css
checked es k None [] h = (tt, tt, tt)
checked es k (Some p) [] h = (tt, tt, tt)
checked es k prior (cs ∷ css) h =
    go (outside es cs || not (after prior cs)) refl h (checked es (suc k) (Some cs) css)
  where
    follow : (p : Option (List ℕ)) → after p cs ≡ true → AllByRecursion (λ ds. before cs ds ≡ true) css → Follow p (cs ∷ css)
    follow None a b = tt
    follow (Some p) a b = (a, All-weaker (λ ds. before cs ds ≡ true) (λ ds. before p ds ≡ true) (λ ds c. before_trans p cs ds a c) css b)

    go : (b : Bool) → (outside es cs || not (after prior cs)) ≡ b → cond b (Some k) (first_fault (entry_checks es (suc k) (Some cs) css)) ≡ None
        → (first_fault (entry_checks es (suc k) (Some cs) css) ≡ None → AllByRecursion (λ cs. outside es cs ≡ false) css × Rising css × Follow (Some cs) css)
        → AllByRecursion (λ cs. outside es cs ≡ false) (cs ∷ css) × Rising (cs ∷ css) × Follow prior (cs ∷ css)
    go true e q ih = absurd (let z : ◌≡◌ {A = ℕ} 0 1 = cc in omega arith)
    go false e q ih =
        let p = or_parts (outside es cs) (not (after prior cs)) e in
        let r = ih q in
        ((p.0, r.0), (r.2, r.1), follow prior (not-false (after prior cs) p.1) r.2)

pub ordered_checked : (es : List ℕ) (css : List (List ℕ)) → first_fault (entry_checks es 0 None css) ≡ None → Ordered es css
ordered_checked es css h = let c = checked es 0 None css h in record { within = c.0; rising = c.1 }

-- the checks from row k on
module _ (es : List ℕ) (r n : ℕ) (cs : List ℕ) where
  abbrev pub faults_from : ℕ → Option ℕ
  faults_from k = first_fault (entry_checks es k (prior_row r cs k) (drop k (rows_of r n cs)))

  pub faults_more : (k : ℕ) → k < n
      → faults_from k ≡ cond (outside es (nth_row r cs k) || not (after (prior_row r cs k) (nth_row r cs k))) (Some k) (faults_from (k + 1))
  faults_more k h =
      ap (λ css. first_fault (entry_checks es k (prior_row r cs k) css)) (rows_more r n cs k h)
      ∙ ap (λ m. cond (outside es (nth_row r cs k) || not (after (prior_row r cs k) (nth_row r cs k))) (Some k)
      (first_fault (entry_checks es m (prior_row r cs m) (drop (k + 1) (rows_of r n cs))))) (let e : suc k ≡ k + 1 = omega arith in e)

  pub faults_all : (k : ℕ) → n ≤ k → faults_from k ≡ None
  faults_all k h = ap (λ css. first_fault (entry_checks es k (prior_row r cs k) css)) (drop_past k (rows_of r n cs) (omega (arith, rows_long r n cs)))
    where
      drop_past : (k : ℕ) (xs : List (List ℕ)) → length xs ≤ k → drop k xs ≡ []
      drop_past zero [] h = refl
      drop_past zero (x ∷ xs) h = absurd (omega arith)
      drop_past (suc k) [] h = refl
      drop_past (suc k) (x ∷ xs) h = drop_past k xs (omega arith)

  -- the first row that is at fault, looked for from row k on
  pub faults_found : (m k : ℕ) → k + m ≡ n
      → find (λ j. outside es (nth_row r cs j) || not (after (prior_row r cs j) (nth_row r cs j))) (range_with_len k m) ≡ faults_from k
  faults_found zero k h = sym (faults_all k (omega arith))
  faults_found (suc m) k h =
      ap (cond (outside es (nth_row r cs k) || not (after (prior_row r cs k) (nth_row r cs k))) (Some k)) (faults_found m (k + 1) (omega arith))
      ∙ sym (faults_more k (omega arith))
