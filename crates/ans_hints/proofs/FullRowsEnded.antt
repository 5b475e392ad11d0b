-- Whether a line end stands behind every full row of a content.
use Rattle.std.proofs.Common.{◌≡◌, ℕ, Bool, true, false, List, length, refl, sym, ap, ◌∙◌, take, subst}
use Rattle.std.specs.Prelude.{Result, Ok, Err}
use Rattle.std.specs.Result.{result_unwrap_or}
use Rattle.std.proofs.lemmas.Bool.{false≢true}
use Rattle.std.proofs.lemmas.List.{append-nil}
use Rattle.std.proofs.Math.Seq.{take-length}
use Rattle.ans_model.specs.Sequence.TokenKind.{TokenKind}
use Rattle.ans_model.specs.Sequence.Reads.{Reads, ReadsAs}
use Rattle.ans_model.specs.declared.fault.Fault.{Fault}
use Rattle.ans_tokens.specs.Walk.{WalksTo}
use Rattle.ans_tokens.proofs.Walked.{never_refused, walked_all}
use Rattle.ans_hints.specs.FullRowEnds.{EndsFullRows}
use Rattle.ans_hints.specs.RowEnds.{are_all_ended}
use Rattle.ans_hints.specs.Walks.{HasWalked}
use Rattle.ans_hints.specs.declared.walk.Walk.{Walk}

module _ (content : List ℕ) (first now : Walk) where
  all : take (length content) content ≡ content
  all = take-length content

  abbrev Walked : Result Bool Fault → Type 0
  Walked result =
      WalksTo (λ first front now goes_on. HasWalked first front goes_on now) content (length content) first now result

  -- it is read to the end, and so they are
  pub ended : (result : Result Bool Fault) → Walked result → result_unwrap_or result false ≡ true
      → are_all_ended now.hints.row_ends ≡ true
      → (tokens : List TokenKind) × (texts : List (List ℕ)) × EndsFullRows first.size content tokens texts
  ended (Ok true) h read are = (
    h.front.tokens,
    h.front.texts,
    record {
      reads = subst (λ (v : List ℕ). ReadsAs v h.front.tokens h.front.texts)
          (sym (sym all ∙ h.whole ∙ append-nil h.read)) h.reads;
      all_ended = sym (ap are_all_ended h.over.hints.row_ends) ∙ are;
    },
  )
  ended (Ok false) h read are = absurd (false≢true read)
  ended (Err fault) h read are = absurd (false≢true read)

  -- what is read so is read to the end
  pub read_whole : (result : Result Bool Fault) (tokens : List TokenKind) (texts : List (List ℕ)) → Walked result
      → EndsFullRows first.size content tokens texts
      → (result_unwrap_or result false ≡ true) × (are_all_ended now.hints.row_ends ≡ true)
  read_whole (Ok true) tokens texts h rows =
      let over = walked_all _ content (length content) first now tokens texts
      (subst (λ (v : List ℕ). ReadsAs v tokens texts) (sym all) rows.reads) h in
      (refl, ap are_all_ended over.hints.row_ends ∙ rows.all_ended)
  read_whole (Ok false) tokens texts (left, h) rows = absurd (false≢true h.over.never_stops)
  read_whole (Err fault) tokens texts h rows =
      absurd (never_refused _ content (length content) first now fault tokens h
      (subst (λ (v : List ℕ). Reads v tokens) (sym all) (texts, rows.reads)))
