-- What is left of a content without the sequences at its end.
use Rattle.std.proofs.Common.{◌≡◌, ℕ, zero, suc, ◌+◌, ◌-◌, ◌<◌, ◌≤◌, true, false, List, inl, inr, length}
use Rattle.std.proofs.Common.{take, drop, get_or, sym, subst, arith, length-take}
use Rattle.std.specs.Prelude.{Option, None, Some, IfSome, IfNone}
use Rattle.std.specs.List.{list_all}
use Rattle.std.proofs.lemmas.Bool.{cases_lt}
use Rattle.std.proofs.lemmas.Grind.{common_steps}
use Rattle.std.proofs.lemmas.List.{take-take}
use Rattle.ans_model.specs.Bytes.{bracket, escape}
use Rattle.ans_model.specs.Screen.State.{Size}
use Rattle.ans_model.specs.Screen.StartClass.{all_known}
use Rattle.ans_model.specs.Verdict.Good.{IsGood}
use Rattle.ans_mend.specs.LastEnds.{EndsInSequence, FrontPasses, IsQuietSequence, LeavesMost, LeavesOut}
use Rattle.ans_mend.specs.LastEnds.{LeavesOutEnds, NeverPasses, is_line_end, is_parameter, is_quiet_letter}
use Rattle.ans_mend.proofs.FrontsPass.{end_from}

-- ---- the last sequence

letter_no_end : (b : ℕ) → is_quiet_letter b ≡ true → is_line_end b ≡ true → ⊥
letter_no_end b quiet ends = grind (arith, common_steps)

escape_no_parameter : (b : ℕ) → b ≡ escape → is_parameter b ≡ true → ⊥
escape_no_parameter b e parameter = grind (arith, common_steps)

escape_no_bracket : (b : ℕ) → b ≡ escape → b ≡ bracket → ⊥
escape_no_bracket b e f = grind (arith, common_steps)

-- no letter of such a sequence is among the line ends that follow
no_later : (bytes : List ℕ) (from start letter : ℕ) → list_all is_line_end (drop from bytes) ≡ true
    → IsQuietSequence bytes start letter → letter < length bytes → letter < from
no_later bytes from start letter ends s within = elim (cases_lt letter from) [
  | inl lt ↦ lt
  | inr le ↦
      absurd (letter_no_end (get_or bytes letter 0) s.ends (end_from bytes from letter ends le within))
]

-- of two sequences with one letter none begins later
begins_no_later : (bytes : List ℕ) (a b letter : ℕ) → IsQuietSequence bytes a letter
    → IsQuietSequence bytes b letter → a < b → ⊥
begins_no_later bytes a b letter s t lt = elim (cases_lt (a + 1) b) [
  | inl more ↦
      escape_no_parameter (get_or bytes b 0) t.opens
      (s.parameters b (omega (arith, more)) (omega (arith, t.order)))
  | inr le ↦
      let next : b ≡ a + 1 = omega (arith, lt, le) in
      escape_no_bracket (get_or bytes b 0) t.opens
      (subst (λ (n : ℕ). get_or bytes n 0 ≡ bracket) (sym next) s.goes_on)
]

begins_at_one : (bytes : List ℕ) (a b letter : ℕ) → IsQuietSequence bytes a letter
    → IsQuietSequence bytes b letter → a ≡ b
begins_at_one bytes a b letter s t = elim (cases_lt a b) [
  | inl lt ↦ absurd (begins_no_later bytes a b letter s t lt)
  | inr le ↦ elim (cases_lt b a) [
    | inl lt ↦ absurd (begins_no_later bytes b a letter t s lt)
    | inr ge ↦ omega (arith, le, ge)
  ]
]

-- so there is one last sequence
pub begins_once : (bytes : List ℕ) (a b : ℕ) → EndsInSequence bytes a → EndsInSequence bytes b → a ≡ b
begins_once bytes a b s t =
    let one : s.letter < t.letter + 1 = no_later bytes (t.letter + 1) a s.letter t.ends s.sequence s.within in
    let other : t.letter < s.letter + 1 = no_later bytes (s.letter + 1) b t.letter s.ends t.sequence t.within in
    let same : s.letter ≡ t.letter = omega (arith, one, other) in
    begins_at_one bytes a b t.letter (subst (IsQuietSequence bytes a) same s.sequence) t.sequence

-- it has the last letter that is no line end, so there is none if no sequence has that letter
pub none_ends : (bytes : List ℕ) (end : ℕ) → list_all is_line_end (drop end bytes) ≡ true
    → ((count : ℕ) → count < end → list_all is_line_end (drop count bytes) ≡ false) → (found : Option ℕ)
    → IfNone found ((start : ℕ) → ¬ IsQuietSequence bytes start (end - 1))
    → IfNone found ((start : ℕ) → ¬ EndsInSequence bytes start)
none_ends bytes end ends others (Some start) h = tt
none_ends bytes end ends others None h = λ start s. go start s
  where
    go : (start : ℕ) → ¬ EndsInSequence bytes start
    go start s = elim (cases_lt (s.letter + 1) end) [
      | inl lt ↦ absurd (cc (others (s.letter + 1) lt, s.ends))
      | inr le ↦
          let early : s.letter < end = no_later bytes end start s.letter ends s.sequence s.within in
          let last : s.letter ≡ end - 1 = omega (arith, early, le) in
          h start (subst (IsQuietSequence bytes start) last s.sequence)
    ]

-- ---- how many bytes stay

pub leaves_within : (n : ℕ) (bytes : List ℕ) (count : ℕ) → LeavesOut n bytes count → count ≤ length bytes
leaves_within zero bytes count h = h.within
leaves_within (suc n) bytes count (inl h) = h.within
leaves_within (suc n) bytes count (inr (start, s, h)) =
    let deeper = leaves_within n (take start bytes) count h in omega (arith, deeper, length-take start bytes)

-- not more than come before the sequence that goes
before_it : (n : ℕ) (bytes : List ℕ) (start count : ℕ) → LeavesOut n (take start bytes) count → count ≤ start
before_it n bytes start count h =
    let within = leaves_within n (take start bytes) count h in omega (arith, within, length-take start bytes)

ends_leave : (n : ℕ) (bytes : List ℕ) (count : ℕ) → LeavesOutEnds bytes count → LeavesOut n bytes count
ends_leave zero bytes count h = h
ends_leave (suc n) bytes count h = inl h

-- what stays has the sequence in it if only line ends go
begins_within : (bytes : List ℕ) (start count : ℕ) → LeavesOutEnds bytes count → EndsInSequence bytes start
    → start < count
begins_within bytes start count h s =
    let lt : s.letter < count = no_later bytes count start s.letter h.ends s.sequence s.within in
    omega (arith, lt, s.sequence.order)

-- ---- with line ends alone

pub most_of_ends : (n : ℕ) (z : Size) (bytes : List ℕ) (count : ℕ) → LeavesMost 0 z bytes count
    → LeavesMost n z bytes count
most_of_ends n z bytes count h = record {
  leaves = ends_leave n bytes count h.leaves;
  passes = h.passes;
  most = λ more lt leaves. go n more lt leaves;
}
  where
    go : (n more : ℕ) → count < more → LeavesOut n bytes more → ¬ FrontPasses z bytes more
    go zero more lt leaves = h.most more lt leaves
    go (suc n) more lt (inl leaves) = h.most more lt leaves
    go (suc n) more lt (inr (start, s, leaves)) =
        let early = before_it n bytes start more leaves in
        let late = begins_within bytes start count h.leaves s in
        absurd (omega (arith, early, late, lt))

-- ---- with a sequence more

taken : (z : Size) (bytes : List ℕ) (start count : ℕ) → count ≤ start
    → FrontPasses z (take start bytes) count → FrontPasses z bytes count
taken z bytes start count le = subst (IsGood z all_known) (take-take count start bytes le)

back : (z : Size) (bytes : List ℕ) (start count : ℕ) → count ≤ start
    → FrontPasses z bytes count → FrontPasses z (take start bytes) count
back z bytes start count le = subst (IsGood z all_known) (sym (take-take count start bytes le))

module _ (n : ℕ) (z : Size) (bytes : List ℕ) (start : ℕ) (never : NeverPasses 0 z bytes)
    (s : EndsInSequence bytes start) where
  none_else : (count : ℕ) → NeverPasses n z (take start bytes) → LeavesOut (suc n) bytes count
      → ¬ FrontPasses z bytes count
  none_else count deeper (inl leaves) passes = never count leaves passes
  none_else count deeper (inr (other, t, leaves)) passes =
      let here : LeavesOut n (take start bytes) count =
      subst (λ (v : ℕ). LeavesOut n (take v bytes) count) (begins_once bytes other start t s) leaves in
      deeper count here (back z bytes start count (before_it n bytes start count here) passes)

  pub most_deeper : (count : ℕ) → LeavesMost n z (take start bytes) count → LeavesMost (suc n) z bytes count
  most_deeper count h = record {
    leaves = inr (start, s, h.leaves);
    passes = taken z bytes start count (before_it n bytes start count h.leaves) h.passes;
    most = λ more lt leaves. go more lt leaves;
  }
    where
      go : (more : ℕ) → count < more → LeavesOut (suc n) bytes more → ¬ FrontPasses z bytes more
      go more lt (inl leaves) passes = never more leaves passes
      go more lt (inr (other, t, leaves)) passes =
          let here : LeavesOut n (take start bytes) more =
          subst (λ (v : ℕ). LeavesOut n (take v bytes) more) (begins_once bytes other start t s) leaves in
          h.most more lt here (back z bytes start more (before_it n bytes start more here) passes)

  pub never_deeper : NeverPasses n z (take start bytes) → NeverPasses (suc n) z bytes
  never_deeper deeper count leaves passes = none_else count deeper leaves passes

-- there is no sequence that could go
pub never_without : (n : ℕ) (z : Size) (bytes : List ℕ) → NeverPasses 0 z bytes
    → ((start : ℕ) → ¬ EndsInSequence bytes start) → NeverPasses n z bytes
never_without zero z bytes never none count leaves passes = never count leaves passes
never_without (suc n) z bytes never none count (inl leaves) passes = never count leaves passes
never_without (suc n) z bytes never none count (inr (start, s, leaves)) passes = absurd (none start s)

-- ---- of results

module _ (n : ℕ) (z : Size) (bytes : List ℕ) where
  pub some_of_ends : (found : Option ℕ) → IfSome found (LeavesMost 0 z bytes) → IfSome found (LeavesMost n z bytes)
  some_of_ends None h = tt
  some_of_ends (Some count) h = most_of_ends n z bytes count h

  module _ (start : ℕ) (never : NeverPasses 0 z bytes) (s : EndsInSequence bytes start) where
    pub some_deeper : (found : Option ℕ) → IfSome found (LeavesMost n z (take start bytes))
        → IfSome found (LeavesMost (suc n) z bytes)
    some_deeper None h = tt
    some_deeper (Some count) h = most_deeper n z bytes start never s count h

    pub none_deeper : (found : Option ℕ) → IfNone found (NeverPasses n z (take start bytes))
        → IfNone found (NeverPasses (suc n) z bytes)
    none_deeper None h = never_deeper n z bytes start never s h
    none_deeper (Some count) h = tt

-- a count that stays is within the bytes
pub some_within : (n : ℕ) (z : Size) (bytes : List ℕ) (found : Option ℕ) → IfSome found (LeavesMost n z bytes)
    → IfSome found (λ count. count ≤ length bytes)
some_within n z bytes None h = tt
some_within n z bytes (Some count) h = leaves_within n bytes count h.leaves
