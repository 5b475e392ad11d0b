-- Free moves, as the cursors of the plays from the low and the high start show them.
use Rattle.std.proofs.Common.{◌≡◌, inl, inr, ℕ, ◌<◌, List, [], ◌∷◌, ◌++◌, length, take, true, false}
use Rattle.std.proofs.Common.{refl, sym, ap, ◌∙◌, arith, subst, Some, All, Bool, length-append}
use Rattle.std.specs.Prelude.{slice_get, Result, Ok, Err, IsTrue}
use Rattle.std.specs.Result.{result_unwrap_or}
use Rattle.std.proofs.lemmas.Bool.{cases_lt, false≢true}
use Rattle.std.proofs.lemmas.List.{take-append-le}
use Rattle.std.proofs.lemmas.List.Elements.{All-take}
use Rattle.std.proofs.lemmas.List.Sums.{fold-append}
use Rattle.std.proofs.lemmas.Option.{same_Some, slice_get_within}
use Rattle.std.proofs.Math.Seq.{take-append_seam, take-length}
use Rattle.ans_model.specs.Sequence.TokenKind.{TokenKind, PrintsByte, Up, Down}
use Rattle.ans_model.specs.Sequence.Reads.{Reads}
use Rattle.ans_model.specs.Screen.State.{Size, State}
use Rattle.ans_model.specs.Screen.StartClass.{low_start, high_start}
use Rattle.ans_model.specs.Screen.Step.{step}
use Rattle.ans_model.specs.declared.fault.Fault.{Fault}
use Rattle.ans_model.specs.declared.start.Start.{Start}
use Rattle.ans_model.specs.Verdict.Good.{IsGood}
use Rattle.ans_model.specs.Verdict.TokenFault.{IsClean}
use Rattle.ans_model.specs.Verdict.TwoStarts.{low_final, high_final}
use Rattle.ans_model.proofs.OneAnswer.{well_is_clean}
use Rattle.ans_model.proofs.Reading.{one_reading, reads_bytes}
use Rattle.ans_model.proofs.Slices.{slice_get-append_left}
use Rattle.ans_model.proofs.StartLemmas.{low_is_start, high_is_start}
use Rattle.ans_pens.specs.Pens.{pen_of}
use Rattle.ans_play.proofs.TwoStarts.{cursor_between}
use Rattle.ans_tokens.specs.Walk.{WalksTo}
use Rattle.ans_tokens.proofs.Walked.{left_reads, never_refused, walked_all}
use Rattle.ans_pens.specs.Taller.{IsTaller, MovesFreely}
use Rattle.ans_pens.specs.Walkers.{IsFreeAfter, IsFreeBetween, HasMoved}
use Rattle.ans_pens.specs.declared.taller.Moves.{Moves}
use Rattle.ans_pens.proofs.CleanSteps.{clean_front, slice_get_last}

module _ (z : Size) (class : Start) where
  -- the first of tokens that move freely do
  free_front : (xs ys : List TokenKind) → MovesFreely z class (xs ++ ys) → MovesFreely z class xs
  free_front xs ys h = record { down = λ k n e. go k (Down n) (h.down k n) e; up = λ k n e. go k (Up n) (h.up k n) e }
    where
      go : (k : ℕ) (t : TokenKind) → (slice_get (xs ++ ys) k ≡ Some t → IsFreeAfter z class (take k (xs ++ ys)) t)
          → slice_get xs k ≡ Some t → IsFreeAfter z class (take k xs) t
      go k t free e =
          let within : k < length xs = slice_get_within xs k t e in
          rw (take-append-le k xs ys (omega (arith, within))) at (free (slice_get-append_left xs ys k within ∙ e))

  -- so is the last of them
  free_last : (played : List TokenKind) (t : TokenKind) → MovesFreely z class (played ++ t ∷ [])
      → IsFreeAfter z class played t
  free_last played t h =
      subst (λ (ts : List TokenKind). IsFreeAfter z class ts t) (take-append_seam played (t ∷ []))
      (go t (slice_get_last played t))
    where
      go : (t' : TokenKind) → slice_get (played ++ t ∷ []) (length played) ≡ Some t'
          → IsFreeAfter z class (take (length played) (played ++ t ∷ [])) t'
      go (Down n) e = h.down (length played) n e
      go (Up n) e = h.up (length played) n e
      go _ e = tt

  -- one more token that is free
  free_more : (played : List TokenKind) (t : TokenKind) → MovesFreely z class played → IsFreeAfter z class played t
      → MovesFreely z class (played ++ t ∷ [])
  free_more played t h free = record {
    down = λ k n e. go k (Down n) (h.down k n) e;
    up = λ k n e. go k (Up n) (h.up k n) e;
  }
    where
      go : (k : ℕ) (u : TokenKind) → (slice_get played k ≡ Some u → IsFreeAfter z class (take k played) u)
          → slice_get (played ++ t ∷ []) k ≡ Some u → IsFreeAfter z class (take k (played ++ t ∷ [])) u
      go k u before e = elim (cases_lt k (length played)) [
        | inl early ↦
            rw (take-append-le k played (t ∷ []) (omega (arith, early)))
            (before (sym (slice_get-append_left played (t ∷ []) k early) ∙ e))
        | inr late ↦
            let last : k ≡ length played =
            omega (arith, late, slice_get_within (played ++ t ∷ []) k u e, length-append played (t ∷ [])) in
            let same : t ≡ u =
            same_Some t u
            (sym (slice_get_last played t) ∙ ap (λ (i : ℕ). slice_get (played ++ t ∷ []) i) (sym last) ∙ e) in
            rw (last, take-append_seam played (t ∷ [])) (subst (IsFreeAfter z class played) same free)
      ]

  -- ---- what two cursors show
  module _ (some : 0 < z.width) (played : List TokenKind) (prints : All PrintsByte played)
      (clean : IsClean z class played) where
    -- they show that a token is free
    between_is_free : (t : TokenKind)
        → IsFreeBetween z (low_final z class played).cursor (high_final z class played).cursor t
        → IsFreeAfter z class played t
    between_is_free (Down n) (low, high) = λ s start.
        let between = cursor_between z class some played prints clean s start in
        omega (arith, low, high, between.row_to)
    between_is_free (Up n) same = λ s t start_s start_t.
        let s_between = cursor_between z class some played prints clean s start_s in
        let t_between = cursor_between z class some played prints clean t start_t in
        omega (arith, same, s_between.row_from, s_between.row_to, t_between.row_from, t_between.row_to)
    between_is_free _ free = tt

    -- where it is, they show it
    free_is_between : (t : TokenKind) → IsFreeAfter z class played t
        → IsFreeBetween z (low_final z class played).cursor (high_final z class played).cursor t
    free_is_between (Down n) free =
        (free (low_start z class) (low_is_start z class some), free (high_start z class) (high_is_start z class some))
    free_is_between (Up n) free =
        free (low_start z class) (high_start z class) (low_is_start z class some) (high_is_start z class some)
    free_is_between _ free = tt

front_prints : (xs ys : List TokenKind) → All PrintsByte (xs ++ ys) → All PrintsByte xs
front_prints xs ys h = subst (All PrintsByte) (take-append_seam xs ys) (All-take PrintsByte (length xs) (xs ++ ys) h)

-- ---- the walk
module _ (first old : Moves) (tokens : List TokenKind) (t : TokenKind) (h : HasMoved first tokens true old)
    (columns : 0 < old.size.width) where
  some : 0 < first.size.width
  some = rw h.size at columns

  -- it stops at a move that is not free
  pub stops_at : ¬ IsFreeBetween old.size old.low.cursor old.high.cursor t → HasMoved first (tokens ++ t ∷ []) false old
  stops_at other = record {
    size = h.size;
    moved = λ class low high prints clean free.
        let z = first.size in
        let played = clean_front z class tokens (t ∷ []) clean in
        let printed = front_prints tokens (t ∷ []) prints in
        let m = h.moved class low high printed played in
        let between = free_is_between z class some tokens printed played t (free_last z class tokens t free) in
        other (rw (h.size, m.1, m.2) between);
  }

  -- it goes on over one that is
  pub goes_on_over : (new : Moves) → new.size ≡ old.size → IsFreeBetween old.size old.low.cursor old.high.cursor t
      → ((s : State) → old.low ≡ pen_of s → new.low ≡ pen_of (step old.size s t))
      → ((s : State) → old.high ≡ pen_of s → new.high ≡ pen_of (step old.size s t))
      → HasMoved first (tokens ++ t ∷ []) true new
  goes_on_over new same between low_steps high_steps = record {
    size = same ∙ h.size;
    moved = λ class low high prints clean.
        let z = first.size in
        let played = clean_front z class tokens (t ∷ []) clean in
        let printed = front_prints tokens (t ∷ []) prints in
        let m = h.moved class low high printed played in (
          free_more z class tokens t m.0
              (between_is_free z class some tokens printed played t (rw (h.size, m.1, m.2) at between)),
          rw h.size at (low_steps (low_final z class tokens) m.1)
              ∙ ap pen_of (sym (fold-append (step z) (low_start z class) tokens (t ∷ []))),
          rw h.size at (high_steps (high_final z class tokens) m.2)
              ∙ ap pen_of (sym (fold-append (step z) (high_start z class) tokens (t ∷ []))),
        );
  }

-- good content is taller where the walk goes on to the end
abbrev pub WalksMoves : List ℕ → Moves → Moves → Result Bool Fault → Type 0
WalksMoves content first now =
    WalksTo (λ first front now goes_on. HasMoved first front.tokens goes_on now) content (length content) first now

module _ (class : Start) (content : List ℕ) (first now : Moves) (good : IsGood first.size class content)
    (low : first.low ≡ pen_of (low_start first.size class)) (high : first.high ≡ pen_of (high_start first.size class))
  where
    abbrev tokens : List TokenKind
    tokens = good.1.tokens

    reads : Reads (take (length content) content) tokens
    reads = rw (take-length content) good.1.reads

    clean : IsClean first.size class tokens
    clean = well_is_clean first.size class tokens good.1.size.some_columns good.1.plays

    prints : All PrintsByte tokens
    prints = reads_bytes content tokens good.1.reads

    pub taller_by_walk : (result : Result Bool Fault) → WalksMoves content first now result
        → (IsTrue (result_unwrap_or result false) → IsTaller first.size class content)
        × (IsTaller first.size class content → IsTrue (result_unwrap_or result false))
    taller_by_walk (Ok true) h =
        let over = walked_all _ content (length content) first now tokens reads.0 reads.1 h in
        let free = (over.moved class low high prints clean).0 in
        (λ _. record { tokens = tokens; reads = good.1.reads; free = free }, λ _. refl)
    taller_by_walk (Ok false) (left, h) =
        let on = left_reads _ content (length content) first now left false h tokens reads in
        let front = h.front.tokens in
        let no = h.over.moved class low high (front_prints front on.later (subst (All PrintsByte) on.more prints))
        (clean_front first.size class front on.later (subst (IsClean first.size class) on.more clean)) in (
          λ e. absurd (false≢true e),
          λ taller. absurd (no (free_front first.size class front on.later (subst (MovesFreely first.size class)
              (one_reading content taller.tokens tokens taller.reads good.1.reads ∙ on.more) taller.free))),
        )
    taller_by_walk (Err fault) h = (
      λ e. absurd (false≢true e),
      λ taller. absurd (never_refused _ content (length content) first now fault tokens h reads),
    )
