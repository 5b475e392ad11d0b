-- What a token does to the parts of a state, above the spare row.
use Rattle.std.proofs.Common.{◌≡◌, ◌≢◌, ℕ, zero, suc, ◌+◌, ◌<◌, Bool, true, false, refl, ap, ◌∙◌, fold, replicate}
use Rattle.std.proofs.Common.{arith}
use Rattle.std.proofs.lemmas.Bool.{ne_eqb}
use Rattle.std.specs.Prelude.{if◌then◌else◌, nat_lt, ◌&&◌, ◌==◌}
use Rattle.ans_model.specs.Bytes.{blank}
use Rattle.ans_model.specs.Sequence.TokenKind.{TokenKind, Glyph, Bell, LineFeed, CarriageReturn, Tab}
use Rattle.ans_model.specs.Sequence.TokenKind.{Clear, Save, Restore, Colours, Wrap}
use Rattle.ans_model.specs.Screen.State.{Size, State, at}
use Rattle.ans_model.specs.Screen.Step.{step, destination, line_feed, advanced, printed, put, tab_blanks}
use Rattle.ans_model.specs.Screen.Attribute.{attribute_after_all}
use Rattle.ans_model.specs.declared.cell.Position.{Position}
use Rattle.ans_players.specs.declared.difference.Difference.TheVariants.{HomeOnClear, SavePlaceOnly}
use Rattle.ans_players.specs.Sync.{Sync, InSync, AfterWrap, AfterFeed, AfterReturn, OutOfSync, sync_after, is_home}
use Rattle.ans_players.specs.Players.{StaysAbove}

-- where a printed byte takes the cursor
abbrev pub next : Size → Bool → Position → Position
next z wrap p =
    if nat_lt (p.column + 1) z.width then at p.row (p.column + 1) else if wrap then at (p.row + 1) 0 else p

abbrev pub next_all : Size → Bool → Position → ℕ → Position
next_all z wrap p zero = p
next_all z wrap p (suc n) = next_all z wrap (next z wrap p) n

abbrev pub cursor_after : Size → TokenKind → Position → Position → Bool → Position
cursor_after z (Glyph byte) p saved wrap = next z wrap p
cursor_after z Tab p saved wrap = next_all z wrap p (tab_blanks p.column)
cursor_after z LineFeed p saved wrap = at (p.row + 1) p.column
cursor_after z Clear p saved wrap = at 0 0
cursor_after z Restore p saved wrap = saved
cursor_after z t p saved wrap = destination z t p

abbrev pub saved_after : TokenKind → Position → Position → Position
saved_after Save p saved = p
saved_after t p saved = saved

abbrev pub attribute_after_token : TokenKind → ℕ → ℕ
attribute_after_token (Colours parameters) a = attribute_after_all a parameters
attribute_after_token t a = a

abbrev pub wrap_after : TokenKind → Bool → Bool
wrap_after (Wrap on) wrap = on
wrap_after t wrap = wrap

abbrev pub sync_after_place : Bool → Position → Sync
sync_after_place wrap p = if wrap && p.column == 0 then AfterWrap else InSync

abbrev pub sync_after_return : Sync → Position → Sync
sync_after_return AfterFeed p = InSync
sync_after_return AfterReturn p = AfterReturn
sync_after_return g p = if p.column == 0 then InSync else AfterReturn

abbrev pub sync_of : Size → TokenKind → Sync → Position → Bool → Sync
sync_of z (Glyph byte) g p wrap = sync_after_place wrap (next z wrap p)
sync_of z Tab g p wrap = sync_after_place wrap (next_all z wrap p (tab_blanks p.column))
sync_of z (Colours parameters) g p wrap = g
sync_of z Bell g p wrap = g
sync_of z CarriageReturn g p wrap = sync_after_return g p
sync_of z LineFeed g p wrap = if p.column == 0 then InSync else AfterFeed
sync_of z Clear g p wrap = if is_home p then InSync else OutOfSync HomeOnClear
sync_of z Save g p wrap = if is_home p then InSync else OutOfSync SavePlaceOnly
sync_of z t g p wrap = InSync

pub record PartsAfter (z : Size) (s t : State) (p saved : Position) (a : ℕ) (wrap : Bool) : Type 0 where
  pub cursor : t.cursor ≡ p
  pub saved_is : t.saved ≡ saved
  pub attribute : t.attribute ≡ a
  pub wrap_is : t.wrap ≡ wrap

parts_of : (z : Size) (s t : State) → PartsAfter z s t t.cursor t.saved t.attribute t.wrap
parts_of z s t = record { cursor = refl; saved_is = refl; attribute = refl; wrap_is = refl }

module _ (z : Size) where
  pub fed_is : (s : State) → s.cursor.row ≢ z.lines
      → line_feed z s ≡ record s { cursor = at (s.cursor.row + 1) s.cursor.column }
  fed_is s above = rw (ne_eqb s.cursor.row z.lines above) refl

  advanced_is : (s : State) → s.cursor.row ≢ z.lines → advanced z s ≡ record s { cursor = next z s.wrap s.cursor }
  advanced_is s above = go (nat_lt (s.cursor.column + 1) z.width) s.wrap
    where
      go : (more wrap : Bool)
          → (if more then record s { cursor = at s.cursor.row (s.cursor.column + 1) }
          else if wrap then line_feed z (record s { cursor = at s.cursor.row 0 }) else s)
          ≡ record s {
            cursor = if more then at s.cursor.row (s.cursor.column + 1)
                else if wrap then at (s.cursor.row + 1) 0 else s.cursor;
          }
      go true wrap = refl
      go false true = fed_is (record s { cursor = at s.cursor.row 0 }) above
      go false false = refl

  pub put_is : (s : State) (byte : ℕ) → s.cursor.row ≢ z.lines
      → put z s byte ≡ record (printed z s byte) { cursor = next z s.wrap s.cursor }
  put_is s byte above = advanced_is (printed z s byte) above

  blanks_are : (n : ℕ) (s : State) → ((i : ℕ) → i < n → (fold (put z) s (replicate i blank)).cursor.row ≢ z.lines)
      → PartsAfter z s (fold (put z) s (replicate n blank)) (next_all z s.wrap s.cursor n) s.saved s.attribute s.wrap
  blanks_are zero s above = parts_of z s s
  blanks_are (suc n) s above =
      let first = put_is s blank (above 0 (omega arith)) in
      let rest = blanks_are n (put z s blank) (λ i lt. above (suc i) (omega arith)) in
      record {
        cursor = rest.cursor ∙ ap (λ (v : State). next_all z v.wrap v.cursor n) first;
        saved_is = rest.saved_is ∙ ap (λ (v : State). v.saved) first;
        attribute = rest.attribute ∙ ap (λ (v : State). v.attribute) first;
        wrap_is = rest.wrap_is ∙ ap (λ (v : State). v.wrap) first;
      }

  along_path : (s t u : State) → t ≡ u → PartsAfter z s t u.cursor u.saved u.attribute u.wrap
  along_path s t u e = record {
    cursor = ap (λ (v : State). v.cursor) e;
    saved_is = ap (λ (v : State). v.saved) e;
    attribute = ap (λ (v : State). v.attribute) e;
    wrap_is = ap (λ (v : State). v.wrap) e;
  }

  pub parts_after : (s : State) (t : TokenKind) → StaysAbove z s t
      → PartsAfter z s (step z s t) (cursor_after z t s.cursor s.saved s.wrap) (saved_after t s.cursor s.saved)
      (attribute_after_token t s.attribute) (wrap_after t s.wrap)
  parts_after s (Glyph byte) above = along_path s (put z s byte) _ (put_is s byte above)
  parts_after s Tab above = blanks_are (tab_blanks s.cursor.column) s above
  parts_after s LineFeed above = along_path s (line_feed z s) _ (fed_is s above)
  parts_after s t above = parts_of z s (step z s t)

  behind_print : (t : State) (p : Position) (wrap : Bool) → t.cursor ≡ p → t.wrap ≡ wrap
      → (if t.wrap && t.cursor.column == 0 then AfterWrap else InSync) ≡ sync_after_place wrap p
  behind_print t p wrap e f =
      ap (λ (b : Bool). sync_after_place b t.cursor) f ∙ ap (λ (q : Position). sync_after_place wrap q) e

  pub sync_is : (g : Sync) (s : State) (t : TokenKind) → StaysAbove z s t
      → sync_after z g s t ≡ sync_of z t g s.cursor s.wrap
  sync_is g s (Glyph byte) above =
      let after = parts_after s (Glyph byte) above in
      behind_print (step z s (Glyph byte)) _ s.wrap after.cursor after.wrap_is
  sync_is g s Tab above =
      let after = parts_after s Tab above in behind_print (step z s Tab) _ s.wrap after.cursor after.wrap_is
  sync_is AfterFeed s CarriageReturn above = refl
  sync_is AfterReturn s CarriageReturn above = refl
  sync_is g s CarriageReturn above = refl
  sync_is g s t above = refl
