-- One form of each picture.
use Rattle.std.proofs.Common.{◌≡◌, ℕ, ◌*◌, ◌<◌, List, Option, sym, ap, ◌∙◌, subst}
use Rattle.std.specs.Prelude.{slice_get, unwrap_or}
use Rattle.std.proofs.lemmas.List.{ext_get_or}
use Rattle.std.proofs.lemmas.Option.{unwrap_or-slice_get}
use Rattle.ans_model.specs.declared.cell.Cell.{Cell}
use Rattle.ans_model.specs.declared.cell.Position.{Position}
use Rattle.ans_model.specs.declared.start.Start.{Start}
use Rattle.ans_model.specs.Sequence.TokenKind.{TokenKind}
use Rattle.ans_model.specs.Screen.State.{Size, State, cell, cell_at}
use Rattle.ans_model.specs.Screen.Step.{final}
use Rattle.ans_model.specs.Screen.StartClass.{none_known, low_start}
use Rattle.ans_model.specs.Verdict.Good.{Picture, GoodWith}
use Rattle.ans_model.proofs.Reading.{one_reading}
use Rattle.ans_model.proofs.StartLemmas.{low_is_start}
use Rattle.ans_redraw.specs.Form.{form_bytes}
use Rattle.ans_picture_laws.specs.FormLaws.{FormTellsThePicture, FormIsKept}
use Rattle.ans_picture_laws.proofs.FormLaws.{form_is_good}
use Rattle.ans_picture_laws.proofs.PrintedPictures.{position_of, position_index, position_stated}

-- ---- content shows one picture
picture_path : (p q : Picture) → p.size ≡ q.size → p.cells ≡ q.cells → p ≡ q
picture_path p q size cells i = record { size = size i; cells = cells i }

same_cell : (z : Size) (class : Start) (content : List ℕ) (p q : Picture) → GoodWith z class content p
    → GoodWith z class content q → (i : ℕ) → i < z.lines * z.width → slice_get p.cells i ≡ slice_get q.cells i
same_cell z class content p q h g i within =
    let w : 0 < z.width = h.size.some_columns in
    let low : State = low_start z class in
    let there : Position = position_of z i in
    let stated = position_stated z i w within in
    let tokens : h.tokens ≡ g.tokens = one_reading content h.tokens g.tokens h.reads g.reads in
    let same : cell_at z p.cells there ≡ cell_at z q.cells there =
    sym (h.shows.shown low there (low_is_start z class w) stated)
    ∙ ap (λ (ts : List TokenKind). cell_at z (final z low ts).screen there) tokens
    ∙ g.shows.shown low there (low_is_start z class w) stated in
    subst (λ (n : ℕ). slice_get p.cells n ≡ slice_get q.cells n) (position_index z i w) same

one_picture : (z : Size) (class : Start) (content : List ℕ) (p q : Picture) → GoodWith z class content p
    → GoodWith z class content q → p ≡ q
one_picture z class content p q h g =
    let nothing : Cell = cell 0 0 in
    let one = h.shows.is_picture in
    let other = g.shows.is_picture in
    picture_path p q (one.size ∙ sym other.size)
    (ext_get_or nothing p.cells q.cells (one.count ∙ sym other.count) (λ i l.
    sym (unwrap_or-slice_get p.cells i nothing)
    ∙ ap (λ (c : Option Cell). unwrap_or c nothing)
    (same_cell z class content p q h g i (subst (λ (n : ℕ). i < n) one.count l))
    ∙ unwrap_or-slice_get q.cells i nothing))

-- ---- its form
pub form_tells_the_picture : FormTellsThePicture
form_tells_the_picture z p q h g e =
    one_picture z none_known (form_bytes p) p q (form_is_good z none_known p h)
    (subst (λ (bytes : List ℕ). GoodWith z none_known bytes q) (sym e) (form_is_good z none_known q g))

pub form_is_kept : FormIsKept
form_is_kept z class p q h good =
    ap (λ (v : Picture). form_bytes v) (one_picture z class (form_bytes p) q p good (form_is_good z class p h))
