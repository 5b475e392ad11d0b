-- What a split and a play say of a file.
use Rattle.std.proofs.Common.{◌≡◌, ◌∙◌, ◌≤◌, ap, arith, length, length-append, ℕ, Bool, true, false, List, []}
use Rattle.std.proofs.Common.{◌∷◌, subst, inl, inr, ◌⊎◌, Some, None, if◌then◌else◌, refl}
use Rattle.std.specs.Prelude.{IfSome, IsSome, Result, Ok, Err, IfOk, IfErr}
use Rattle.std.specs.List.{AllByRecursion}
use Rattle.std.proofs.lemmas.List.{length-take}
use Rattle.ans_model.specs.File.Record.{stated_size}
use Rattle.ans_model.specs.Bytes.{longest_file}
use Rattle.ans_model.specs.File.Layout.{FileParts, content}
use Rattle.ans_model.specs.File.Refusals.{Refusal, fault_at, first_refusal, file_refusals, record_fault}
use Rattle.ans_model.specs.Verdict.Certain.{IsCertain}
use Rattle.ans_model.specs.Screen.State.{Size}
use Rattle.ans_model.specs.Verdict.Good.{Picture, GoodWith, IsGood}
use Rattle.ans_model.specs.Verdict.FirstFault.{IsFirstFault}
use Rattle.ans_model.specs.Verdict.LastFault.{IsLastFault}
use Rattle.ans_model.specs.Screen.StartClass.{none_known, all_but_screen, all_but_cursor, all_but_saved}
use Rattle.ans_model.specs.Screen.StartClass.{all_but_colours, all_but_wrap}
use Rattle.ans_model.specs.Verdict.Needs.{IsLeast, IsFoundByParts}
use Rattle.ans_model.specs.declared.fault.Fault.{Fault}
use Rattle.ans_model.specs.declared.start.Start.{Start}
use Rattle.ans_model.proofs.ClassLemmas.{covers_good, none_known_covers}
use Rattle.ans_model.proofs.OneAnswer.{good_or_first, good_or_last}
use Rattle.ans_model.proofs.AcceptedFiles.{one_layout, no_fault}
use Rattle.ans_sauce.specs.declared.parts.Parts.{Parts}
use Rattle.ans_sauce.specs.Parts.{ShowsParts, content_of, size_of}
use Rattle.ans_sauce.specs.Split.{IsSplit}
use Rattle.ans_verdict.specs.FileNeeds.{NeedsClass}
use Rattle.ans_verdict.specs.FileVerdict.{Deserves, Passes, IsRefusedFor, IsGoodFile}

-- what is so of a play is so of equal sizes, starts and contents
pub so_of_same : (P : Size → Start → List ℕ → Type 0) (a b : Size) (from start : Start) (played content : List ℕ)
    → a ≡ b → from ≡ start → played ≡ content → P a from played → P b start content
so_of_same P a b from start played content size same text h =
    subst (λ (v : Size). P v start content) size
    (subst (λ (v : Start). P a v content) same (subst (P a from) text h))

-- what is so of a good end
pub ok_of_parts : {T : Type 0} {a b : Size} {from start : Start} {played content : List ℕ} (r : Result T Fault)
    (P : Size → Start → List ℕ → T → Type 0) → a ≡ b → from ≡ start → played ≡ content
    → IfOk r (P a from played) → IfOk r (P b start content)
ok_of_parts {T} {a} {b} {from} {start} {played} {content} (Ok v) P size same text h =
    so_of_same (λ z s bytes. P z s bytes v) a b from start played content size same text h
ok_of_parts (Err f) P size same text h = tt

-- and of a fault
pub err_of_parts : {T : Type 0} {a b : Size} {from start : Start} {played content : List ℕ} (r : Result T Fault)
    (P : Size → Start → List ℕ → Fault → Type 0) → a ≡ b → from ≡ start → played ≡ content
    → IfErr r (P a from played) → IfErr r (P b start content)
err_of_parts (Ok v) P size same text h = tt
err_of_parts {T} {a} {b} {from} {start} {played} {content} (Err f) P size same text h =
    so_of_same (λ z s bytes. P z s bytes f) a b from start played content size same text h

-- what is so of the parts' size and content is so of the file's
so_of_file : (file : List ℕ) (parts : Parts) (s : IsSplit file parts) (P : Size → List ℕ → Type 0)
    → P (size_of parts) (content_of parts) → P (stated_size s.apart.record_bytes) (content s.apart.body)
so_of_file file parts s P h =
    subst (λ (v : Size). P v (content s.apart.body)) (ap stated_size s.shows.sauce)
    (subst (P (size_of parts)) s.shows.content h)

-- a content is no longer than its file
pub content_no_longer : (file : List ℕ) (parts : Parts) → IsSplit file parts → length (content_of parts) ≤ length file
content_no_longer file parts h =
    let body = h.apart.body in
    let size = ap length h.accepts.laid.whole ∙ length-append body _ in
    let front : length (content body) ≤ length body = simp length-take (omega arith) in
    rw h.shows.content (omega (arith, size, front))

pub content_within : (file : List ℕ) (parts : Parts) → IsSplit file parts → length file ≤ longest_file
    → length (content_of parts) ≤ longest_file
content_within file parts h within = omega (arith, within, content_no_longer file parts h)

-- ---- what is found of the parts' content is found of the file
module _ (file : List ℕ) (start : Start) (parts : Parts) (s : IsSplit file parts) where
  pub passes : (p : Picture) → GoodWith (size_of parts) start (content_of parts) p
      → (apart : FileParts) × ShowsParts apart parts × Passes file start apart p
  passes p h =
      let good = so_of_file file parts s (λ z bytes. GoodWith z start bytes p) h in
      (s.apart, s.shows, record { accepts = s.accepts; good = good })

  pub refuses : (f : Fault) → Deserves (size_of parts) start (content_of parts) f
      → (apart : FileParts) × ShowsParts apart parts × IsRefusedFor file start apart f
  refuses f h = (
    s.apart,
    s.shows,
    record { accepts = s.accepts; deserved = so_of_file file parts s (λ z bytes. Deserves z start bytes f) h },
  )

  pub needs_class : IsLeast (size_of parts) (content_of parts) start
      → (apart : FileParts) × ShowsParts apart parts × NeedsClass file apart start
  needs_class h = (
    s.apart,
    s.shows,
    record {
      accepts = s.accepts;
      least = so_of_file file parts s (λ z bytes. IsLeast z bytes start) h;
    },
  )

-- a good content deserves no fault
pub not_good : (z : Size) (start : Start) (bytes : List ℕ) (f : Fault) → Deserves z start bytes f
    → IsGood z start bytes → ⊥
not_good z start bytes f d good = go d.deserved
  where
    go : IsFirstFault z start bytes f ⊎ IsLastFault z start bytes f → ⊥
    go (inl first) = good_or_first z start bytes f good first
    go (inr last) = good_or_last z start bytes f good last

-- a file that is refused for its content is not good
pub refused_not_good : (file : List ℕ) (start : Start) (apart : FileParts) (f : Fault)
    → IsRefusedFor file start apart f → IsGoodFile file start → ⊥
refused_not_good file start apart f r good =
    let same : good.0 ≡ apart = one_layout file good.0 apart good.2.accepts.laid r.accepts.laid in
    let here : IsGood (stated_size apart.record_bytes) start (content apart.body) =
    subst (λ (a : FileParts). IsGood (stated_size a.record_bytes) start (content a.body)) same (good.1, good.2.good) in
    not_good (stated_size apart.record_bytes) start (content apart.body) f r.deserved here

-- a file whose record or layout is refused is not good
pub record_not_good : (file : List ℕ) (start : Start) (f : Fault) → record_fault file ≡ Some f → IsGoodFile file start
    → ⊥
record_not_good file start f e good =
    let none : record_fault file ≡ None = no_fault file good.0 good.2.accepts in cc

-- a file that is split has no fault of its record
pub no_refusal : (file : List ℕ) (parts : Parts) → IsSplit file parts → IsSome (record_fault file) → ⊥
no_refusal file parts s some =
    let none : record_fault file ≡ None = no_fault file s.apart s.accepts in
    let bad : false ≡ true = rw none at some in cc

-- where each refusal is certain, so is the fault
certain_first : (rs : List Refusal) → AllByRecursion (λ r. IsCertain r.cause) rs
    → IfSome (first_refusal rs) (λ f. IsCertain f.cause)
certain_first [] h = tt
certain_first (r ∷ rs) h = here r.applies (certain_first rs h.1)
  where
    here : (b : Bool) → IfSome (first_refusal rs) (λ f. IsCertain f.cause)
        → IfSome (if b then Some (fault_at r.offset r.cause) else first_refusal rs) (λ f. IsCertain f.cause)
    here true behind = h.0
    here false behind = behind

-- the faults of a record are certain
pub record_certain : (file : List ℕ) (f : Fault) → record_fault file ≡ Some f → IsCertain f.cause
record_certain file f e =
    rw e at (certain_first (file_refusals file) (tt, (tt, (tt, (tt, (tt, (tt, (tt, (tt, tt)))))))))

-- what is good from every start needs no part
pub nothing_needed : (z : Size) (content : List ℕ) → IsGood z none_known content
    → IsFoundByParts z content none_known
nothing_needed z content good = record {
  screen = (λ e. without all_but_screen, λ g. refl);
  cursor = (λ e. without all_but_cursor, λ g. refl);
  saved = (λ e. without all_but_saved, λ g. refl);
  colours = (λ e. without all_but_colours, λ g. refl);
  wrap = (λ e. without all_but_wrap, λ g. refl);
}
  where
    without : (class : Start) → IsGood z class content
    without class = (good.0, covers_good z none_known class content good.0 (none_known_covers class) good.1)
