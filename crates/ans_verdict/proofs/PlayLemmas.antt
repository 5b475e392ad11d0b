-- Playing the content in pieces.
use Rattle.std.proofs.Common.{◌≡◌, ℕ, ◌+◌, ◌≤◌, List, ◌++◌, length, take, drop, sym, ap, subst, ◌∙◌, arith}
use Rattle.std.proofs.Common.{append_assoc, length-append, take-append-drop, inl, inr, refl, ◌⊎◌}
use Rattle.std.specs.Prelude.{Result, IfErr}
use Rattle.std.proofs.lemmas.List.{length-take-le, take_all}
use Rattle.std.proofs.lemmas.Result.{IfErr-weaker}
use Rattle.std.proofs.Math.Seq.{drop-append_seam, take-append_seam}
use Rattle.ans_model.specs.Screen.State.{Size}
use Rattle.ans_model.specs.Verdict.FirstFault.{IsFirstFault}
use Rattle.ans_model.specs.Verdict.LastFault.{IsLastFault}
use Rattle.ans_model.specs.declared.fault.Fault.{Fault}
use Rattle.ans_model.specs.declared.start.Start.{Start}
use Rattle.ans_play.specs.PlayerView.{PlayerView}
use Rattle.ans_model.proofs.OneAnswer.{first_is_certain, last_is_certain}
use Rattle.ans_play.specs.Stands.{SamePlay, Stands}
use Rattle.ans_play.proofs.Feeding.{first_longer, first_within}
use Rattle.ans_play.proofs.Finishing.{last_within}
use Rattle.ans_play.proofs.TwoStarts.{first_shown, last_shown}
use Rattle.ans_verdict.specs.FileVerdict.{Deserves}
use Rattle.ans_verdict.proofs.VerdictLemmas.{err_of_parts, so_of_same}

-- a piece comes off what is left of the content
pub record Cut (content piece rest : List ℕ) (n : ℕ) : Type 0 where
  pub fits : n + length piece ≤ length content
  pub taken : take (n + length piece) content ≡ take n content ++ piece
  pub left : drop (n + length piece) content ≡ rest
  pub whole : content ≡ (take n content ++ piece) ++ rest

pub cut : (content piece rest : List ℕ) (n : ℕ) → n ≤ length content → drop n content ≡ piece ++ rest
    → Cut content piece rest n
cut content piece rest n le e =
    let front = take n content ++ piece in
    let whole : content ≡ front ++ rest =
    sym (take-append-drop n content) ∙ ap (λ (v : List ℕ). take n content ++ v) e
    ∙ sym (append_assoc (take n content) piece rest) in
    let size : length front ≡ n + length piece =
    length-append (take n content) piece ∙ ap (λ (v : ℕ). v + length piece) (length-take-le n content le) in
    let total : length content ≡ length front + length rest = ap length whole ∙ length-append front rest in
    record {
      fits = omega (arith, total, size);
      taken = ap (λ (v : ℕ). take v content) (sym size) ∙ ap (take (length front)) whole ∙ take-append_seam front rest;
      left = ap (λ (v : ℕ). drop v content) (sym size) ∙ ap (drop (length front)) whole ∙ drop-append_seam front rest;
      whole = whole;
    }

-- the size and the start stay over two calls
pub SamePlay-then : (a b c : PlayerView) → SamePlay a b → SamePlay b c → SamePlay a c
SamePlay-then a b c p q = record { size = q.size ∙ p.size; start = q.start ∙ p.start }

-- a fault that is the content's first or last is deserved
pub deserved : (z : Size) (start : Start) (content : List ℕ) (f : Fault)
    → IsFirstFault z start content f ⊎ IsLastFault z start content f → Deserves z start content f
deserved z start content f (inl first) = record {
  deserved = inl first;
  certain = λ cleared. first_is_certain z content f (rw cleared at first);
  shown = first_shown z start content f first;
  offset = first_within z start content f first;
}
deserved z start content f (inr last) = record {
  deserved = inr last;
  certain = λ cleared. last_is_certain z content f (rw cleared at last);
  shown = last_shown z start content f last;
  offset = last_within z start content f last;
}

-- the first fault of a front is the content's
pub fed_fault : (a b : PlayerView) (content piece rest : List ℕ) (n : ℕ) (f : Fault) → SamePlay a b
    → Cut content piece rest n
    → IsFirstFault b.size b.start (take n content ++ piece) f → Deserves a.size a.start content f
fed_fault a b content piece rest n f same c first =
    so_of_same (λ z s bytes. Deserves z s bytes f) b.size a.size b.start a.start content content same.size same.start
    refl
    (deserved b.size b.start content f (inl (subst (λ (v : List ℕ). IsFirstFault b.size b.start v f) (sym c.whole)
    (first_longer b.size b.start (take n content ++ piece) rest f first))))

-- the fault in the end is the content's
pub last_faults : {T : Type 0} (r : Result T Fault) (a b : PlayerView) (content : List ℕ) → SamePlay a b
    → IfErr r (IsLastFault b.size b.start content) → IfErr r (Deserves a.size a.start content)
last_faults r a b content same last =
    err_of_parts r Deserves same.size same.start refl
    (IfErr-weaker r _ _ (λ f h. deserved b.size b.start content f (inr h)) last)

-- once nothing is left, a player that stands behind what it was fed stands behind the content
pub stands_whole : (player : PlayerView) (content rest : List ℕ) (n : ℕ) → rest ≡ drop n content → length rest ≡ 0
    → n ≤ length content → Stands player (take n content) → Stands player content
stands_whole player content rest n e none le stands =
    let left : length (drop n content) ≡ 0 = ap length (sym e) ∙ none in
    let split : length content ≡ length (take n content) + length (drop n content) =
    ap length (sym (take-append-drop n content)) ∙ length-append (take n content) (drop n content) in
    subst (Stands player) (take_all n content (omega (arith, split, left, length-take-le n content le))) stands
