-- A search with one token more.
use Rattle.std.proofs.Common.{◌≡◌, Bool, true, false, List, [], ◌∷◌, ◌++◌, length, refl, subst}
use Rattle.std.proofs.Common.{Option, None, Some}
use Rattle.std.specs.Prelude.{is_none, if◌then◌else◌}
use Rattle.std.proofs.lemmas.Bool.{false≢true}
use Rattle.ans_model.specs.Sequence.TokenKind.{TokenKind, Glyph, Bell, BackSpace, LineFeed, CarriageReturn, Tab, Up}
use Rattle.ans_model.specs.Sequence.TokenKind.{Down, Forward, Backward, Place, Clear, EraseLine, Save, Restore, Colours}
use Rattle.ans_model.specs.Sequence.TokenKind.{Wrap, Mode, Keys, Ask}
use Rattle.ans_players.specs.Names.{Names, are_both, names_after, paints, unnamed}
use Rattle.ans_players.specs.Situations.{Spelled}
use Rattle.ans_mend.specs.NamedColours.{names_at_print, numbers_to_zero, takes_names}
use Rattle.ans_mend.specs.NameSearch.{IsSearched, Waits, bytes_of}
use Rattle.ans_mend.specs.declared.name_search.Taking.{Taking}
use Rattle.ans_mend.proofs.NamesWaiting.{Settled, none_after, same_names_after, settled_none, settled_waits}
use Rattle.ans_mend.proofs.NamesWaiting.{waits_after}
use Rattle.ans_mend.proofs.NamesWaiting.{waits_on}

-- what prints or clears takes no names away
pub prints_only : (t : TokenKind) → paints t ≡ true → takes_names t ≡ false
prints_only (Colours parameters) h = absurd (false≢true h)
prints_only (Glyph byte) h = refl
prints_only Bell h = absurd (false≢true h)
prints_only BackSpace h = absurd (false≢true h)
prints_only LineFeed h = absurd (false≢true h)
prints_only CarriageReturn h = absurd (false≢true h)
prints_only Tab h = refl
prints_only (Up k) h = absurd (false≢true h)
prints_only (Down k) h = absurd (false≢true h)
prints_only (Forward k) h = absurd (false≢true h)
prints_only (Backward k) h = absurd (false≢true h)
prints_only (Place row column) h = absurd (false≢true h)
prints_only Clear h = refl
prints_only EraseLine h = refl
prints_only Save h = absurd (false≢true h)
prints_only Restore h = absurd (false≢true h)
prints_only (Wrap on) h = absurd (false≢true h)
prints_only Mode h = absurd (false≢true h)
prints_only Keys h = absurd (false≢true h)
prints_only Ask h = absurd (false≢true h)

module _ (xs : List Spelled) (x : Spelled) (n : Names) where
  -- behind what prints or clears
  pub searched_print : (taking : Option Taking) (both : Bool) → paints x.token ≡ true → are_both n ≡ both
      → IsSearched true taking n xs
      → IsSearched (is_none (if both then None else taking)) (if both then None else taking) n (xs ++ x ∷ [])
  searched_print None true prints is h = none_after xs x (settled_none xs x h) (prints_only x.token prints)
  searched_print None false prints is h = none_after xs x (settled_none xs x h) (prints_only x.token prints)
  searched_print (Some taking) true prints is h =
      none_after xs x
      (settled_waits xs x taking (names_at_print n) h (λ more. rw prints is))
      (prints_only x.token prints)
  searched_print (Some taking) false prints is h = (
    waits_on xs x taking (names_at_print n) (λ more. n) h (prints_only x.token prints) (λ more. rw prints refl),
    is,
  )

  -- before a sequence that takes the names away nothing waits
  settled : (taking : Option Taking) → paints x.token ≡ false → takes_names x.token ≡ true
      → IsSearched true taking n xs → Settled xs x
  settled None other takes h = settled_none xs x h
  settled (Some taking) other takes h =
      settled_waits xs x taking (names_at_print n) h (λ more. rw (other, takes) refl)

  -- behind a sequence that takes the names away
  pub searched_taking : (old : Option Taking) (taking : Taking) → paints x.token ≡ false
      → takes_names x.token ≡ true → IsSearched true old n xs
      → taking.start ≡ length (bytes_of xs) → taking.length ≡ length x.text
      → taking.numbers ≡ numbers_to_zero x.token
      → IsSearched true (Some taking) (names_after n x.token) (xs ++ x ∷ [])
  searched_taking old taking other takes h start long numbers =
      subst (λ (v : Names). Waits (xs ++ x ∷ []) taking (names_at_print v))
      (same_names_after unnamed n x.token takes)
      (waits_after xs x taking (settled old other takes h) takes start long numbers)

  -- behind another token
  pub searched_other : (taking : Option Taking) → paints x.token ≡ false → takes_names x.token ≡ false
      → IsSearched true taking n xs → IsSearched true taking (names_after n x.token) (xs ++ x ∷ [])
  searched_other None other keeps h = none_after xs x (settled_none xs x h) keeps
  searched_other (Some taking) other keeps h =
      waits_on xs x taking (names_at_print n) (names_at_print (names_after n x.token)) h keeps
      (λ more. rw (other, keeps) refl)
