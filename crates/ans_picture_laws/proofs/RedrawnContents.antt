-- The content of a redrawn file tells the picture, and players part at its bytes alone.
use Rattle.std.proofs.Common.{List, ℕ, sym, ap, ◌∙◌, subst}
use Rattle.std.specs.Prelude.{◌↔◌}
use Rattle.ans_model.specs.File.Record.{stated_size}
use Rattle.ans_model.specs.Screen.StartClass.{none_known}
use Rattle.ans_model.specs.Screen.State.{Size}
use Rattle.ans_model.specs.Verdict.Good.{Picture}
use Rattle.ans_players.specs.Classes.{IsLeastSame}
use Rattle.ans_picture_laws.specs.Drawable.{BytesAreAgreed, IsDrawable}
use Rattle.ans_redraw.specs.Form.{form_bytes}
use Rattle.ans_picture_laws.proofs.FormLaws.{form_is_same}
use Rattle.ans_picture_laws.proofs.Redrawn.{form_tells_the_picture}
use Rattle.ans_picture_laws.specs.RedrawnFileLaws.{ContentTellsThePicture, OnlyItsBytesPart}
use Rattle.ans_picture_laws.proofs.RedrawnFiles.{its_drawable}
use Rattle.ans_picture_laws.proofs.RedrawnTwice.{drawable_there}

pub content_tells_the_picture : ContentTellsThePicture
content_tells_the_picture file other apart other_apart new other_new p q h g k l same = (
  λ contents. form_tells_the_picture (stated_size apart.record_bytes) p q (its_drawable file apart p h)
      (subst (λ (v : Size). IsDrawable v q) (sym same) (its_drawable other other_apart q g))
      (sym k.form ∙ contents ∙ l.form),
  λ pictures. k.form ∙ ap (λ (v : Picture). form_bytes v) pictures ∙ sym l.form,
)

pub only_its_bytes_part : OnlyItsBytesPart
only_its_bytes_part agreed file apart new picture h k =
    subst (λ (bytes : List ℕ). BytesAreAgreed agreed picture
    ↔ IsLeastSame agreed (stated_size new.record_bytes) bytes none_known) (sym k.form)
    (form_is_same agreed (stated_size new.record_bytes) picture (drawable_there file apart new picture h k))
