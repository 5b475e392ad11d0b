-- On which players a redrawn file shows its picture.
use Rattle.std.proofs.Common.{◌≡◌, ℕ, Bool, List, sym, subst, subst₂}
use Rattle.std.specs.Prelude.{◌↔◌}
use Rattle.ans_model.specs.File.Layout.{FileParts, content}
use Rattle.ans_model.specs.File.Record.{stated_size}
use Rattle.ans_model.specs.Screen.State.{Size}
use Rattle.ans_model.specs.Screen.StartClass.{all_known, none_known}
use Rattle.ans_model.specs.Verdict.Good.{Picture}
use Rattle.ans_model.specs.declared.start.Start.{Start}
use Rattle.ans_model.proofs.ClassLemmas.{none_known_covers}
use Rattle.ans_players.specs.Classes.{IsLeastSame, IsSame}
use Rattle.ans_players.specs.Players.{Behaviour, IsPlayer, IsShown}
use Rattle.ans_players.specs.Situations.{spelled}
use Rattle.ans_players.specs.declared.difference.Difference.{Difference}
use Rattle.ans_picture_laws.specs.Drawable.{BytesAreAgreed}
use Rattle.ans_redraw.specs.declared.outcome.Redrawn.{Redrawn}
use Rattle.ans_picture_laws.proofs.RedrawnContents.{only_its_bytes_part}
use Rattle.ans_kinds.specs.SaidOfPlayers.{IsSaidOfPlayers}
use Rattle.ans_kinds.specs.declared.players.Players.TheVariants.{Any}
use Rattle.ans_verdict.specs.FileVerdict.{Passes}
use Rattle.ans_redraw.specs.Redrawing.{IsRedrawn}
use Rattle.ans_check_laws.proofs.OnePicture.{same_picture}
use Rattle.ans_check_laws.proofs.PlayersShown.{none_agreed, same_is_shown}
use Rattle.ans_check_laws.proofs.RedrawnPictures.{IsNew, is_new, new_parts, new_passes}

module _ (file new : List ℕ) (redrawn : Redrawn) (h : IsRedrawn file redrawn new) (class : Start) (apart : FileParts)
    (picture : Picture) (passes : Passes new class apart picture) where
  abbrev z : Size
  z = stated_size apart.record_bytes

  abbrev bytes : List ℕ
  bytes = content apart.body

  -- exactly where the kinds of the picture's bytes are agreed, it is the same from every start
  pub same_where_agreed : (agreed : Difference → Bool)
      → BytesAreAgreed agreed picture ↔ IsLeastSame agreed z bytes none_known
  same_where_agreed agreed =
      let its : IsNew file h.apart h.picture new = is_new file new h.apart h.picture redrawn h.passes h in
      let to = new_parts file h.apart h.picture new its in
      let one = same_picture new class to.0 apart h.picture picture
      (new_passes file h.apart h.picture new its class) passes in
      subst₂ (λ (v : FileParts) (p : Picture). BytesAreAgreed agreed p
      ↔ IsLeastSame agreed (stated_size v.record_bytes) (content v.body) none_known) one.0 one.1
      (only_its_bytes_part agreed file h.apart to.0 h.picture its.can to.1)

  -- a player on a screen of that size shows it, where it draws those bytes as the profile does
  pub redrawn_is_shown : (screen : Size) (its : Difference → Bool) (p : Behaviour) → IsPlayer screen its p → screen ≡ z
      → BytesAreAgreed its picture
      → IsShown p screen class (spelled passes.good.tokens passes.good.reads.0) picture
  redrawn_is_shown screen its p player size agreed =
      let same : IsSame its z class bytes = (((same_where_agreed its).0 agreed) class).1 (none_known_covers class) in
      let on_it : IsPlayer z its p → IsShown p z class (spelled passes.good.tokens passes.good.reads.0) picture =
      λ there. same_is_shown z bytes its its p there (λ kind is. is) class picture same passes.good in
      subst (λ (v : Size). IsPlayer v its p
      → IsShown p v class (spelled passes.good.tokens passes.good.reads.0) picture) (sym size) on_it player

-- `players: any`, from every start, is said of it exactly where players part at none of the picture's bytes
pub any_is_said : (file new : List ℕ) (redrawn : Redrawn) (apart : FileParts) (picture : Picture)
    → IsRedrawn file redrawn new → Passes new all_known apart picture
    → IsSaidOfPlayers (stated_size apart.record_bytes) (content apart.body) (Any none_known)
    ↔ BytesAreAgreed none_agreed picture
any_is_said file new redrawn apart picture h passes =
    let same = same_where_agreed file new redrawn h all_known apart picture passes none_agreed in
    (same.1, same.0)
