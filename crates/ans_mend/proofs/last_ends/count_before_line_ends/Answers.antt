use Rattle.std.proofs.Common.{◌≡◌, ℕ, zero, suc, ◌+◌, ◌-◌, ◌<◌, ◌≤◌, true, false, List, inl, inr, get_or, drop}
use Rattle.std.proofs.Common.{length, refl}
use Rattle.std.proofs.Common.{subst, arith}
use Rattle.std.proofs.lemmas.Bool.{and_parts, cases_Bool, cases_lt, eqb-true}
use Rattle.std.proofs.lemmas.List.{drop_all, drop_more}
use Rattle.std.specs.List.{list_all}
use Rattle.std.specs.Prelude.{◌==◌}
use Rattle.ans_model.specs.Screen.State.{Size}
use Rattle.ans_mend.specs.LastEnds.{FrontPasses, LeavesMost, is_line_end, splits_line_end}
use Rattle.ans_mend.proofs.FrontsPass.{passes_with_fewer}
use Rattle.ans_mend.proofs.last_ends.count_before_line_ends.Goals as goal

-- after an offset from which on they are line ends they still are
ends_later : (bytes : List ℕ) (from more : ℕ) → list_all is_line_end (drop from bytes) ≡ true
    → list_all is_line_end (drop (from + more) bytes) ≡ true
ends_later bytes from zero ends =
    let same : from ≡ from + 0 = omega arith in
    subst (λ (v : ℕ). list_all is_line_end (drop v bytes) ≡ true) same ends
ends_later bytes from (suc more) ends =
    let k : ℕ = from + more in
    let same : k + 1 ≡ from + suc more = omega arith in
    let before : list_all is_line_end (drop k bytes) ≡ true = ends_later bytes from more ends in
    let behind : list_all is_line_end (drop (k + 1) bytes) ≡ true = elim (cases_lt k (length bytes)) [
      | inl lt ↦ (and_parts (is_line_end (get_or bytes k 0)) (list_all is_line_end (drop (k + 1) bytes))
          (rw (drop_more bytes k 0 lt) at before)).1
      | inr le ↦ rw (drop_all (k + 1) bytes (omega (arith, le))) refl
    ] in
    subst (λ (v : ℕ). list_all is_line_end (drop v bytes) ≡ true) same behind

ends_on : (bytes : List ℕ) (from k : ℕ) → list_all is_line_end (drop from bytes) ≡ true → from ≤ k
    → list_all is_line_end (drop k bytes) ≡ true
ends_on bytes from k ends le =
    let up : from + (k - from) ≡ k = omega (arith, le) in
    subst (λ (v : ℕ). list_all is_line_end (drop v bytes) ≡ true) up (ends_later bytes from (k - from) ends)

-- what is around an offset that splits a line end
split_tells : (bytes : List ℕ) (k : ℕ) → splits_line_end bytes k ≡ true
    → (get_or bytes (k - 1) 0 ≡ 0x0D) × (get_or bytes k 0 ≡ 0x0A)
split_tells bytes k splits =
    let both = and_parts (get_or bytes (k - 1) 0 == 0x0D) (get_or bytes k 0 == 0x0A) splits in
    (eqb-true _ _ both.0, eqb-true _ _ both.1)

-- nothing is before the first byte
split_is_later : (bytes : List ℕ) (k : ℕ) → splits_line_end bytes k ≡ true → 0 < k
split_is_later bytes zero splits = let t = split_tells bytes 0 splits in absurd (omega (arith, t))
split_is_later bytes (suc k) splits = omega arith

-- its return is a line end
return_ends : (bytes : List ℕ) (k : ℕ) → splits_line_end bytes k ≡ true → k ≤ length bytes
    → list_all is_line_end (drop k bytes) ≡ true → list_all is_line_end (drop (k - 1) bytes) ≡ true
return_ends bytes k splits within ends =
    let later : 0 < k = split_is_later bytes k splits in
    let up : k - 1 + 1 ≡ k = omega (arith, later) in
    let byte : get_or bytes (k - 1) 0 ≡ 0x0D = (split_tells bytes k splits).0 in
    rw (drop_more bytes (k - 1) 0 (omega (arith, later, within)), byte, up) ends

-- the offset before it splits none
whole_before : (bytes : List ℕ) (k : ℕ) → splits_line_end bytes k ≡ true → splits_line_end bytes (k - 1) ≡ false
whole_before bytes k splits = elim (cases_Bool (splits_line_end bytes (k - 1))) [
  | inl too ↦
      let t = split_tells bytes k splits in
      let u = split_tells bytes (k - 1) too in
      absurd (omega (arith, t.0, u.1))
  | inr whole ↦ whole
]

-- where the most that pass split a line end, that goes as a whole
most_with_return : (z : Size) (bytes : List ℕ) (from k : ℕ) → splits_line_end bytes k ≡ true → k ≤ length bytes
    → from ≤ k - 1 → list_all is_line_end (drop from bytes) ≡ true → FrontPasses z bytes k
    → ((more : ℕ) → k < more → more ≤ length bytes → ¬ FrontPasses z bytes more) → LeavesMost 0 z bytes (k - 1)
most_with_return z bytes from k splits within le ends passes most = record {
  leaves = record {
    within = omega (arith, within);
    ends = ends_on bytes from (k - 1) ends le;
    whole = whole_before bytes k splits;
  };
  passes = passes_with_fewer z bytes from (k - 1) k ends le (omega arith) within passes;
  most = λ more lt leaves. elim (cases_lt k more) [
    | inl above ↦ most more above leaves.within
    | inr not_above ↦
        let same : more ≡ k = omega (arith, lt, not_above) in
        let whole : splits_line_end bytes k ≡ false =
        subst (λ (v : ℕ). splits_line_end bytes v ≡ false) same leaves.whole in
        absurd (cc (splits, whole))
  ];
}

pub returns-then-not-is_good-clause-none : goal.returns-then-not-is_good-clause-none
returns-then-not-is_good-clause-none c count leaves passes =
    let enough = c.count_before_ends-enough.ensures in
    elim (cases_lt count c.count_before_ends-enough.result) [
      | inl lt ↦ absurd (cc (enough.others count lt, leaves.ends))
      | inr le ↦
          let front = passes_with_fewer c.args.size c.args.content.now c.count_before_ends-enough.result
          c.count_before_ends-enough.result count enough.ends (omega arith) le leaves.within passes in
          absurd (cc (c.is_good-2.ensures.1 front, c.if-not-is_good.true))
    ]

pub returns-then-splits_line_end-clause-some : goal.returns-then-splits_line_end-clause-some
returns-then-splits_line_end-clause-some c =
    let bytes : List ℕ = c.args.content.now in
    let from : ℕ = c.count_before_ends-enough.result in
    let k : ℕ = c.most_passing-count.result in
    let enough = c.count_before_ends-enough.ensures in
    let most = c.most_passing-count.ensures in
    let splits : splits_line_end bytes k ≡ true = cc in
    let le : from ≤ k - 1 = elim (cases_lt (k - 1) from) [
      | inl lt ↦
          let all = return_ends bytes k splits most.within (ends_on bytes from k enough.ends most.from) in
          absurd (cc (all, enough.others (k - 1) lt))
      | inr le ↦ le
    ] in
    most_with_return c.args.size bytes from k splits most.within le enough.ends most.passes most.most

pub returns-clause-some : goal.returns-clause-some
returns-clause-some c =
    let from : ℕ = c.count_before_ends-enough.result in
    let most = c.most_passing-count.ensures in
    record {
      leaves = record {
        within = most.within;
        ends = ends_on c.args.content.now from c.most_passing-count.result c.count_before_ends-enough.ensures.ends
            most.from;
        whole = cc;
      };
      passes = most.passes;
      most = λ more lt leaves. most.most more lt leaves.within;
    }
