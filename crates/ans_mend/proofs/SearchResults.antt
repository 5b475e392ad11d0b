-- What a search over bytes has found.
use Rattle.std.proofs.Common.{◌≡◌, ℕ, ◌-◌, ◌≤◌, Bool, true, false, List, [], ◌++◌, length, refl, sym, ap}
use Rattle.std.proofs.Common.{◌∙◌, arith, subst, length-append, length-drop, append-nil, drop, Option, None, Some}
use Rattle.std.specs.Prelude.{Result, Ok, Err, OnErr}
use Rattle.std.specs.List.{concat}
use Rattle.std.proofs.Math.Seq.{take-length}
use Rattle.std.proofs.lemmas.Bool.{false≢true}
use Rattle.std.proofs.lemmas.List.{nil_from_length}
use Rattle.ans_model.specs.Sequence.TokenKind.{TokenKind}
use Rattle.ans_model.specs.Sequence.Reads.{Reads, ReadsAs}
use Rattle.ans_model.specs.declared.fault.Fault.{Fault}
use Rattle.ans_players.specs.Situations.{spelled}
use Rattle.ans_tokens.specs.Walk.{Front, Walks, WalksTo}
use Rattle.ans_tokens.proofs.Walked.{never_refused}
use Rattle.ans_kinds.specs.NamesShown.{shown_names}
use Rattle.ans_mend.specs.NameSearch.{HasSearched, IsSearched, NoneIsNamed, WaitsIn}
use Rattle.ans_mend.specs.declared.name_search.NameSearch.{NameSearch}
use Rattle.ans_mend.specs.declared.name_search.Taking.{Taking}
use Rattle.ans_mend.proofs.SearchSteps.{none_goes, waiting_within}

-- of an error
pub on_err : {A B : Type 0} → (r : Result A B) (P : Type 0) → P → OnErr r P
on_err (Ok a) P p = tt
on_err (Err b) P p = p

abbrev over_front : NameSearch → Front → NameSearch → Bool → Type 0
over_front first front now goes_on = HasSearched first front goes_on now

module _ (bytes : List ℕ) (first now : NameSearch) where
  pub not_read : (fault : Fault) → WalksTo over_front bytes (length bytes) first now (Err fault)
      → (tokens : List TokenKind) → ¬ Reads bytes tokens
  not_read fault h tokens reads =
      never_refused over_front bytes (length bytes) first now fault tokens h (rw (take-length bytes) reads)

  found_none : Walks over_front bytes (length bytes) [] first now true → NoneIsNamed bytes
  found_none h =
      let all : bytes ≡ h.read = sym (take-length bytes) ∙ h.whole ∙ append-nil h.read in
      none_goes bytes h.front.tokens h.front.texts now.taking (shown_names now.named)
      (subst (λ (v : List ℕ). ReadsAs v h.front.tokens h.front.texts) (sym all) h.reads) h.over.searched

  pub none_waits : (over : Bool) → WalksTo over_front bytes (length bytes) first now (Ok over) → now.taking ≡ None
      → NoneIsNamed bytes
  none_waits true h none = found_none h
  none_waits false (left, h) none =
      absurd (subst (λ (v : Option Taking). IsSearched false v (shown_names now.named)
      (spelled h.front.tokens h.front.texts)) none h.over.searched)

  pub none_waited : (over : Bool) → WalksTo over_front bytes (length bytes) first now (Ok over) → over ≡ true
      → NoneIsNamed bytes
  none_waited true h is = found_none h
  none_waited false h is = absurd (false≢true is)

  -- what stands behind the last token
  left_behind : (left : List ℕ) (h : Walks over_front bytes (length bytes) left first now false)
      → now.behind ≡ length left
  left_behind left h =
      h.over.behind ∙ ap length h.behind
      ∙ ap (λ (v : List ℕ). length (left ++ v))
      (nil_from_length (drop (length bytes) bytes) (length-drop (length bytes) bytes ∙ omega arith))
      ∙ ap length (append-nil left)

  whole_there : (left : List ℕ) (h : Walks over_front bytes (length bytes) left first now false)
      → bytes ≡ concat h.front.texts ++ left
  whole_there left h =
      sym (take-length bytes) ∙ h.whole ∙ ap (λ (v : List ℕ). v ++ left) h.reads.whole

  pub behind_within : (over : Bool) → WalksTo over_front bytes (length bytes) first now (Ok over) → over ≡ false
      → now.behind ≤ length bytes
  behind_within true h is = absurd (false≢true (sym is))
  behind_within false (left, h) is =
      omega (arith, left_behind left h, ap length (whole_there left h), length-append (concat h.front.texts) left)

  pub waits_there : (over : Bool) → WalksTo over_front bytes (length bytes) first now (Ok over) → over ≡ false
      → (taking : Taking) → now.taking ≡ Some taking
      → WaitsIn bytes (record { taking = taking; named = now.named; end = length bytes - now.behind })
  waits_there true h is taking some = absurd (false≢true (sym is))
  waits_there false (left, h) is taking some =
      let found : IsSearched false (Some taking) (shown_names now.named) (spelled h.front.tokens h.front.texts) =
      subst (λ (v : Option Taking). IsSearched false v (shown_names now.named)
      (spelled h.front.tokens h.front.texts)) some h.over.searched in
      let reads : ReadsAs (concat h.front.texts) h.front.tokens h.front.texts =
      record { each = h.reads.each; whole = refl } in
      let whole = whole_there left h in
      record {
        tokens = h.front.tokens;
        texts = h.front.texts;
        left = left;
        reads = reads;
        whole = whole;
        end = omega (arith, left_behind left h, ap length whole, length-append (concat h.front.texts) left);
        waits = found.0;
        missing = found.1;
        within = waiting_within bytes left h.front.tokens h.front.texts taking (shown_names now.named) reads whole
            found.0;
      }
