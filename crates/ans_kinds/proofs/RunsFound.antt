-- The kinds that arise at a run of plain bytes.
use Rattle.std.proofs.Common.{◌≡◌, ℕ, suc, ◌+◌, ◌<◌, Bool, true, not, List, [], ◌∷◌, length, get_or}
use Rattle.std.proofs.Common.{refl, sym, ap, ap₂, ◌∙◌, subst, arith, Option}
use Rattle.std.specs.Prelude.{IsTrue}
use Rattle.std.proofs.lemmas.Bool.{false≢true}
use Rattle.std.specs.List.{list_all, list_any}
use Rattle.ans_model.specs.Bytes.{IsByte}
use Rattle.ans_model.specs.Sequence.TokenKind.{Glyph}
use Rattle.ans_model.specs.Screen.State.{Size, State}
use Rattle.ans_players.specs.Kinds.{is_kind}
use Rattle.ans_players.specs.Names.{are_both}
use Rattle.ans_players.specs.Situations.{kind_if, situations, spelled}
use Rattle.ans_players.specs.declared.difference.Difference.{Difference}
use Rattle.ans_players.specs.declared.difference.Difference.TheVariants.{OwnColours}
use Rattle.ans_tokens.specs.Walk.{Front, IsRunNext, front_past, is_plain}
use Rattle.ans_tokens.proofs.Runs.{KeptByBytes, kept_past}
use Rattle.ans_kinds.specs.AgreedWalked.{HasStayedAgreed, StaysAgreedInRow}
use Rattle.ans_pens.specs.Counted.{counted, counted_times}
use Rattle.ans_kinds.specs.KindsUsed.{is_used, used_of}
use Rattle.ans_kinds.specs.KindsWalked.{HasFoundKinds, IsFound, StaysSyncedInRow}
use Rattle.ans_kinds.specs.SyncShown.{shown_sync}
use Rattle.ans_kinds.specs.NamesShown.{shown_names}
use Rattle.ans_pens.specs.Pens.{further}
use Rattle.ans_kinds.specs.declared.agreed.AgreedWalk.{AgreedWalk}
use Rattle.ans_kinds.specs.declared.sync.Sync.TheVariants.{InSync}
use Rattle.ans_kinds.specs.declared.kinds.KindsWalk.{KindsWalk}
use Rattle.ans_pens.specs.declared.pen.Pen.{Pen}
use Rattle.ans_pens.specs.declared.times.Times.{Times}
use Rattle.ans_kinds.proofs.AgreedFound.{walked_on}
use Rattle.ans_pens.proofs.CountedRuns.{times_suc, times_zero}
use Rattle.ans_kinds.proofs.KindsFound.{FoundSoFar, found_token, has_found, one, so_far}
use Rattle.ans_kinds.proofs.ByteInSync.{byte_in_sync}
use Rattle.ans_pens.proofs.PenSteps.{byte_further, further_zero}
use Rattle.ans_kinds.proofs.PlainBytes.{plain_kinds}

-- ---- the walk over kinds
module _ (first old new : KindsWalk) (front : Front) (run behind : List ℕ) (offset : ℕ)
    (h : HasFoundKinds first front true old) (bytes : (k : ℕ) → k < length run → IsByte (get_or run k 0))
    (next : IsRunNext front offset run behind) (stays : StaysSyncedInRow old (length run)) where
  abbrev z : Size
  z = old.size

  abbrev is_own : Bool
  is_own = not (are_both (shown_names old.names))

  abbrev uses : ℕ → Difference → Option Times
  uses k kind = counted_times (used_of old.used kind) (list_any (is_kind kind) (kind_if is_own OwnColours)) k offset

  abbrev kept : ℕ → Front → Type 0
  kept k front = FoundSoFar z old.content.now front (further old.pen k) InSync old.names old.moves_rows (uses k)

  step_by_byte : KeptByBytes kept offset run behind
  step_by_byte k byte front rest n found =
      let inside : old.pen.cursor.column + suc k < z.width = omega (arith, n.within, stays.stays) in
      found_token z old.content.now front (Glyph byte) (byte ∷ []) rest (further old.pen k) InSync old.names
      old.moves_rows (uses k) found n.whole (further old.pen (suc k)) InSync old.names old.moves_rows (uses (suc k))
      (offset + k) n.starts
      (λ s e. byte_further z old.pen k byte inside s e)
      (λ s e. sym (byte_in_sync z old.pen k byte inside s e))
      refl refl
      (λ s kind e. times_suc (used_of old.used kind) _ k offset
      ∙ sym (ap (λ (kinds : List Difference). counted (uses k kind) (list_any (is_kind kind) kinds) (offset + k))
      (plain_kinds byte n.plain z s (shown_names old.names))))

  begins : kept 0 front
  begins =
      let f = so_far first old front h in
      record {
        texts = f.texts;
        whole = f.whole;
        stands = record {
          pen_is = further_zero old.pen ∙ f.stands.pen_is;
          sync_is = ap shown_sync (sym stays.in_sync) ∙ f.stands.sync_is;
          names_are = f.stands.names_are;
        };
        found = λ kind. subst (λ (v : Option Times). IsFound z (spelled front.tokens front.texts) kind v)
            (sym (times_zero (used_of old.used kind) _ offset)) (f.found kind);
        moves = f.moves;
      }

  pub walked_run : new.size ≡ old.size → new.content.now ≡ old.content.now → new.pen ≡ further old.pen (length run)
      → new.sync ≡ old.sync → new.names ≡ old.names → new.moves_rows ≡ old.moves_rows
      → ((kind : Difference) → used_of new.used kind ≡ uses (length run) kind)
      → HasFoundKinds first (front_past front run behind) true new
  walked_run size content pen sync names moves used =
      let past = kept_past kept offset run behind front bytes step_by_byte next begins in
      has_found first old front h (front_past front run behind) new size content (record {
        texts = past.texts;
        whole = past.whole;
        stands = record {
          pen_is = pen ∙ past.stands.pen_is;
          sync_is = ap shown_sync (sync ∙ stays.in_sync) ∙ past.stands.sync_is;
          names_are = ap shown_names names ∙ past.stands.names_are;
        };
        found = λ kind. subst (λ (v : Option Times). IsFound z
            (spelled (front_past front run behind).tokens (front_past front run behind).texts) kind v)
            (sym (used kind)) (past.found kind);
        moves = moves ∙ past.moves;
      })

-- ---- the walk that looks for kinds that are not used
module _ (first old : AgreedWalk) (front : Front) (run behind : List ℕ) (offset : ℕ)
    (h : HasStayedAgreed first front true old) (bytes : (k : ℕ) → k < length run → IsByte (get_or run k 0))
    (next : IsRunNext front offset run behind) (stays : StaysAgreedInRow old (length run)) where
  abbrev pub agreed_walk_at : ℕ → AgreedWalk
  agreed_walk_at k = record old { pen = further old.pen k; cleared = further old.cleared k }

  abbrev kept_agreed : ℕ → Front → Type 0
  kept_agreed k front = HasStayedAgreed first front true (agreed_walk_at k)

  agreed_at : (byte : ℕ) → IsTrue (is_plain byte) → (s : State)
      → true ≡ list_all (is_used old.used.now) (situations old.size
      (record { sync = shown_sync old.sync; names = shown_names old.names; state = s }) (one (Glyph byte) (byte ∷ [])))
  agreed_at byte plain s =
      rw stays.in_sync (sym (ap (list_all (is_used old.used.now))
      (plain_kinds byte plain old.size s (shown_names old.names)) ∙ stays.agreed))

  agreed_by_byte : KeptByBytes kept_agreed offset run behind
  agreed_by_byte k byte front rest n only_agreed =
      walked_on first (agreed_walk_at k) (agreed_walk_at (suc k)) front (Glyph byte) (byte ∷ []) rest only_agreed
      n.whole refl refl refl true
      (λ s e. agreed_at byte n.plain s) (only_agreed.on refl) (λ e. absurd (false≢true (sym e))) (
        λ s e. byte_further old.size old.pen k byte (omega (arith, n.within, stays.stays)) s e,
        λ s e. rw stays.in_sync (sym (byte_in_sync old.size old.pen k byte (omega (arith, n.within, stays.stays)) s e)),
      ) (
        λ s e. byte_further old.size old.cleared k byte (omega (arith, n.within, stays.cleared_stays)) s e,
        λ s e. rw stays.cleared_in_sync
            (sym (byte_in_sync old.size old.cleared k byte (omega (arith, n.within, stays.cleared_stays)) s e)),
      )
      refl

  pub walked_agreed_run : HasStayedAgreed first (front_past front run behind) true (agreed_walk_at (length run))
  walked_agreed_run =
      kept_past kept_agreed offset run behind front bytes agreed_by_byte next
      (subst (λ (w : AgreedWalk). HasStayedAgreed first front true w)
      (sym (ap₂ (λ (p q : Pen). record old { pen = p; cleared = q }) (further_zero old.pen)
      (further_zero old.cleared))) h)
