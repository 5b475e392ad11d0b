-- The form shows the picture from every start, on every player.
use Rattle.std.proofs.Common.{◌≡◌, ℕ, zero, suc, ◌-◌, ◌*◌, ◌<◌, Bool, true, refl, ap, sym, ◌∙◌, subst}
use Rattle.std.proofs.Common.{arith, List, [], ◌∷◌, ◌++◌, length, take, fold, map, replicate}
use Rattle.std.proofs.Math.Seq.{take-length}
use Rattle.std.specs.Prelude.{slice_get, slice_index_or, All}
use Rattle.std.specs.List.{list_all}
use Rattle.ans_model.specs.declared.cell.Cell.{Cell}
use Rattle.ans_model.specs.declared.start.Start.{Start}
use Rattle.ans_model.specs.Sequence.TokenKind.{Clear, Save, Colours, Place, Wrap}
use Rattle.ans_model.specs.Screen.State.{Size, State, at, cell_at, cell_count, index}
use Rattle.ans_model.specs.Screen.Step.{blank_cell, final}
use Rattle.ans_model.specs.Screen.StartClass.{Covers, none_known, cleared}
use Rattle.ans_model.specs.Text.ReportText.{rows, rows_of}
use Rattle.ans_model.specs.Verdict.Good.{Picture, Shows}
use Rattle.ans_model.proofs.BeginningLemmas.{place_is_within, reset}
use Rattle.ans_model.proofs.PositionLemmas.{index-lt_stated}
use Rattle.ans_model.proofs.Slices.{slice_get-append_left}
use Rattle.ans_players.specs.declared.difference.Difference.{Difference}
use Rattle.ans_players.specs.Classes.{IsSame}
use Rattle.ans_players.specs.Sync.{InSync, Stand, synced}
use Rattle.ans_players.specs.Mends.{mending_spelled}
use Rattle.ans_players.specs.Players.{Behaviour, IsPlayer}
use Rattle.ans_players.specs.Situations.{Spelled, AreAgreed, spelled, stand_behind}
use Rattle.ans_players.proofs.Along.{kinds_of, state_after}
use Rattle.ans_players_laws.proofs.Everywhere.{shown_by}
use Rattle.ans_players.proofs.MendedPlayers.{mending_leaves, named}
use Rattle.ans_players.proofs.OneSpelling.{one_spelling}
use Rattle.ans_players.proofs.Spellings.{wrap_on, reset_to_names, clear, home, save}
use Rattle.ans_redraw.specs.Form.{form, form_bytes, rows_drawn}
use Rattle.ans_picture_laws.specs.Drawable.{shown_kinds, IsDrawable, BytesAreAgreed}
use Rattle.ans_picture_laws.specs.FormLaws.{FormIsRead, FormIsGood, FormIsAgreed, FormIsShown}
use Rattle.ans_picture_laws.specs.FormLaws.{FormHasNoEndMark, FormEndsGrey, FormIsSame, FormFeedsOn}
use Rattle.ans_picture_laws.specs.FormLaws.{FormNeedsNothing}
use Rattle.ans_picture_laws.proofs.AllGoes.{Marks, SameBefore, all_spelled, all_unmarked, all_agreed, all_feed_on}
use Rattle.ans_picture_laws.proofs.AllGoes.{all_play_well}
use Rattle.ans_picture_laws.proofs.Going.{AllGoWell, Leads, both_lead}
use Rattle.ans_picture_laws.proofs.HalfDrawn.{half}
use Rattle.ans_picture_laws.proofs.KindsBack.{bytes_agreed}
use Rattle.ans_picture_laws.proofs.Pieces.{stand}
use Rattle.ans_picture_laws.proofs.PictureDrawn.{IsAllDrawn, picture_leads}
use Rattle.ans_picture_laws.proofs.ReadBack.{read_back}
use Rattle.ans_picture_laws.proofs.RowDrawn.{IsShownCell}

-- ---- the mending
module _ (z : Size) (agreed : Difference → Bool) (some : 0 < z.width) where
  mending_goes : (s : State) → AllGoWell z agreed (synced s) mending_spelled
  mending_goes s = (
    record {
      spelled = wrap_on;
      unmarked = refl;
      allowed = record { no_static_fault = λ cause f. f; stays_above = tt };
      feeds_on = tt;
      agreed_there = refl;
    },
    (
      record {
        spelled = reset_to_names;
        unmarked = refl;
        allowed = record { no_static_fault = λ cause f. f; stays_above = tt };
        feeds_on = tt;
        agreed_there = refl;
      },
      (
        record {
          spelled = clear;
          unmarked = refl;
          allowed = record { no_static_fault = λ cause f. f; stays_above = tt };
          feeds_on = tt;
          agreed_there = rw (reset s.attribute) refl;
        },
        (
          record {
            spelled = home;
            unmarked = refl;
            allowed = record {
              no_static_fault = λ cause. place_is_within z 1 cause (omega arith) some;
              stays_above = tt;
            };
            feeds_on = tt;
            agreed_there = refl;
          },
          (
            record {
              spelled = save;
              unmarked = refl;
              allowed = record { no_static_fault = λ cause f. f; stays_above = tt };
              feeds_on = tt;
              agreed_there = refl;
            },
            tt,
          ),
        ),
      ),
    ),
  )

  mending_leads : (s : State) → Leads z agreed (synced s) mending_spelled (named z)
  mending_leads s = record { well = mending_goes s; leads = mending_leaves z s }

-- behind it the state is the same from all starts, and it neither prints nor erases
same_behind : (z : Size) (ys : List Spelled) → SameBefore z (mending_spelled ++ ys)
same_behind z ys zero t e marks s r =
    let same : t ≡ Wrap true = cc in absurd (subst Marks same marks)
same_behind z ys (suc zero) t e marks s r =
    let same : t ≡ Colours (0 ∷ 37 ∷ 40 ∷ []) = cc in absurd (subst Marks same marks)
same_behind z ys (suc (suc zero)) t e marks s r =
    let same : t ≡ Clear = cc in absurd (subst Marks same marks)
same_behind z ys (suc (suc (suc zero))) t e marks s r =
    let same : t ≡ Place 1 1 = cc in absurd (subst Marks same marks)
same_behind z ys (suc (suc (suc (suc zero)))) t e marks s r =
    let same : t ≡ Save = cc in absurd (subst Marks same marks)
same_behind z ys (suc (suc (suc (suc (suc j))))) t e marks s r =
    ap (λ (h : Stand). final z h.state (take j (kinds_of ys))) (mending_leaves z s ∙ sym (mending_leaves z r))

-- ---- the form
cleared_is : (z : Size) (cells : List Cell) → named z ≡ stand z cells InSync (0 * z.width) (at 0 0) 0x07
cleared_is z cells =
    let none : 0 * z.width ≡ 0 = omega arith in
    let all : cell_count z ≡ cell_count z - 0 = omega arith in
    ap (λ (n : ℕ). record (named z) { state = record (cleared z) { screen = replicate n (blank_cell 0x07) } }) all
    ∙ ap (λ (k : ℕ). stand z cells InSync k (at 0 0) 0x07) (sym none)

module _ (agreed : Difference → Bool) (z : Size) (picture : Picture) (drawable : IsDrawable z picture)
    (bytes : BytesAreAgreed agreed picture) where
  abbrev cells : List Cell
  cells = picture.cells

  cells_shown : All (IsShownCell agreed) cells
  cells_shown k d lt = record {
    printed = drawable.printed k d lt;
    attribute = (drawable.is_picture.bytes k d lt).1;
    kinds = bytes k d lt;
  }

  rows_lead : IsAllDrawn z cells agreed (named z) (rows_drawn 0 0x07 (rows_of picture))
  rows_lead =
      let all = picture_leads z cells agreed drawable.is_picture.count drawable.size.some_columns cells_shown in
      subst (λ (y : Size). IsAllDrawn z cells agreed (named z) (rows_drawn 0 0x07 (rows y.width y.lines cells)))
      (sym drawable.is_picture.size)
      (subst (λ (h : Stand). IsAllDrawn z cells agreed h (rows_drawn 0 0x07 (rows z.width z.lines cells)))
      (sym (cleared_is z cells)) all)

  form_drawn : (s : State) → IsAllDrawn z cells agreed (synced s) (form picture)
  form_drawn s = record {
    there = rows_lead.there;
    leads = both_lead z agreed (synced s) (named z) rows_lead.there mending_spelled
        (rows_drawn 0 0x07 (rows_of picture)) (mending_leads z agreed drawable.size.some_columns s) rows_lead.leads;
    screen = rows_lead.screen;
    attribute = rows_lead.attribute;
  }

  form_goes : (s : State) → AllGoWell z agreed (synced s) (form picture)
  form_goes s = (form_drawn s).leads.well

-- all cells are drawn
drawn_cell : (z : Size) (cells : List Cell) (k : ℕ) → k < length cells
    → slice_get (half z cells (length cells)) k ≡ slice_get cells k
drawn_cell z cells k lt =
    ap (λ (v : List Cell). slice_get (v ++ replicate (cell_count z - length cells) (blank_cell 0x07)) k)
    (take-length cells)
    ∙ slice_get-append_left cells (replicate (cell_count z - length cells) (blank_cell 0x07)) k lt

form_shows : (agreed : Difference → Bool) (z : Size) (class : Start) (picture : Picture) → IsDrawable z picture
    → BytesAreAgreed agreed picture → Shows z class (kinds_of (form picture)) picture
form_shows agreed z class picture h bytes = record {
  is_picture = h.is_picture;
  shown = λ s p start stated.
      let all = form_drawn agreed z picture h bytes s in
      let lt : index z p < z.lines * z.width = index-lt_stated z p stated in
      ap (λ (v : State). cell_at z v.screen p) (sym (state_after z (synced s) (form picture)))
      ∙ ap (λ (v : Stand). cell_at z v.state.screen p) all.leads.leads
      ∙ ap (λ (v : List Cell). cell_at z v p) all.screen
      ∙ drawn_cell z picture.cells (index z p) (omega (arith, h.is_picture.count));
}

-- ---- the laws
-- all kinds are agreed
abbrev any_kind : Difference → Bool
any_kind kind = true

none_refused : (kinds : List Difference) → list_all any_kind kinds ≡ true
none_refused [] = refl
none_refused (kind ∷ kinds) = none_refused kinds

any_agreed : (picture : Picture) → BytesAreAgreed any_kind picture
any_agreed picture k d lt = none_refused (shown_kinds (slice_index_or picture.cells k d).byte)

pub form_is_read : FormIsRead
form_is_read z picture h =
    read_back (form picture)
    (all_spelled z any_kind (synced (cleared z)) (form picture)
    (form_goes any_kind z picture h (any_agreed picture) (cleared z)))

pub form_is_good : FormIsGood
form_is_good z class picture h =
    let read = form_is_read z picture h in
    record {
      size = h.size;
      tokens = kinds_of (form picture);
      reads = (map (λ x. x.text) (form picture), read);
      plays = all_play_well z any_kind (form picture) (form_goes any_kind z picture h (any_agreed picture))
          (same_behind z (rows_drawn 0 0x07 (rows_of picture))) class;
      shows = form_shows any_kind z class picture h (any_agreed picture);
    }

agreed_where_bytes_are : (agreed : Difference → Bool) (z : Size) (class : Start) (picture : Picture)
    → IsDrawable z picture
    → BytesAreAgreed agreed picture → AreAgreed agreed z class (form picture)
agreed_where_bytes_are agreed z class picture h bytes =
    all_agreed z agreed (form picture) (form_goes agreed z picture h bytes) class

pub form_is_agreed : FormIsAgreed
form_is_agreed agreed z class picture h =
    (agreed_where_bytes_are agreed z class picture h, bytes_agreed agreed z class picture h)

pub form_is_shown : (z : Size) (agreed : Difference → Bool) (p : Behaviour) → IsPlayer z agreed p
    → FormIsShown p z agreed
form_is_shown z agreed p player picture h bytes =
    shown_by z agreed p player none_known (form picture) picture
    (all_play_well z agreed (form picture) (form_goes agreed z picture h bytes)
    (same_behind z (rows_drawn 0 0x07 (rows_of picture))) none_known)
    (form_shows agreed z none_known picture h bytes)
    (agreed_where_bytes_are agreed z none_known picture h bytes)

pub form_has_no_end_mark : FormHasNoEndMark
form_has_no_end_mark z picture h =
    all_unmarked z any_kind (synced (cleared z)) (form picture)
    (form_goes any_kind z picture h (any_agreed picture) (cleared z))

pub form_ends_grey : FormEndsGrey
form_ends_grey z s picture h =
    let all = form_drawn any_kind z picture h (any_agreed picture) s in
    ap (λ (v : State). v.attribute) (sym (state_after z (synced s) (form picture)))
    ∙ ap (λ (v : Stand). v.state.attribute) all.leads.leads ∙ all.attribute

-- the tokens with their texts
spelled_back : (xs : List Spelled) → spelled (kinds_of xs) (map (λ x. x.text) xs) ≡ xs
spelled_back [] = refl
spelled_back (x ∷ xs) = ap (λ (ys : List Spelled). x ∷ ys) (spelled_back xs)

-- each class knows as much as none
none_covers : (class : Start) → Covers none_known class
none_covers class = record {
  screen = λ h. absurd (let no : ⊥ = cc in no);
  cursor = λ h. absurd (let no : ⊥ = cc in no);
  saved = λ h. absurd (let no : ⊥ = cc in no);
  colours = λ h. absurd (let no : ⊥ = cc in no);
  wrap = λ h. absurd (let no : ⊥ = cc in no);
}

pub form_needs_nothing : FormNeedsNothing
form_needs_nothing z picture h class =
    (λ good. none_covers class, λ covers. (picture, form_is_good z class picture h))

same_from : (agreed : Difference → Bool) (z : Size) (class : Start) (picture : Picture) → IsDrawable z picture
    → BytesAreAgreed agreed picture → IsSame agreed z class (form_bytes picture)
unfolding form_is_good
same_from agreed z class picture h bytes = (
  (picture, form_is_good z class picture h),
  subst (λ (xs : List Spelled). AreAgreed agreed z class xs) (sym (spelled_back (form picture)))
      (agreed_where_bytes_are agreed z class picture h bytes),
)

-- where its bytes are the same, the picture's bytes are agreed
same_back : (agreed : Difference → Bool) (z : Size) (class : Start) (picture : Picture) → IsDrawable z picture
    → IsSame agreed z class (form_bytes picture) → BytesAreAgreed agreed picture
unfolding form_is_good
same_back agreed z class picture h same =
    let good = form_is_good z class picture h in
    let spelled_alike : spelled same.0.1.tokens same.0.1.reads.0 ≡ form picture =
    one_spelling (form_bytes picture) same.0.1.tokens good.tokens same.0.1.reads good.reads
    ∙ spelled_back (form picture) in
    bytes_agreed agreed z class picture h
    (subst (λ (xs : List Spelled). AreAgreed agreed z class xs) spelled_alike same.1)

pub form_is_same : FormIsSame
form_is_same agreed z picture h = (
  λ bytes class. (λ same. none_covers class, λ covers. same_from agreed z class picture h bytes),
  λ least. same_back agreed z none_known picture h ((least none_known).1 (none_covers none_known)),
)

pub form_feeds_on : FormFeedsOn
form_feeds_on z s picture k h e =
    all_feed_on z any_kind (form picture) (form_goes any_kind z picture h (any_agreed picture)) k s e
