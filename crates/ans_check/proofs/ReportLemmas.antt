-- A report on what was found is right of the file.
use Rattle.std.proofs.Common.{◌≡◌, ℕ, Bool, false, List, Option, Some, None}
use Rattle.std.proofs.Common.{inl, inr, refl, sym, ap, ap₂, subst, ◌∙◌, not, true, true≢false}
use Rattle.std.specs.Prelude.{if◌then◌else◌, is_some}
use Rattle.ans_model.specs.Verdict.Good.{Picture}
use Rattle.ans_model.specs.File.Layout.{FileParts}
use Rattle.ans_model.specs.File.Refusals.{record_fault}
use Rattle.ans_model.specs.Text.RecordText.{record_text}
use Rattle.ans_model.specs.Text.TokensText.{TokensText}
use Rattle.ans_model.specs.Screen.StartClass.{all_known}
use Rattle.ans_model.specs.Text.NeedsText.{needs_text}
use Rattle.ans_model.specs.Text.ReportText.{Heading, Passed, RefusedFor, refusal_text, report_text}
use Rattle.ans_model.specs.File.Record.{stated_size}
use Rattle.ans_model.specs.declared.fault.Fault.{Fault}
use Rattle.ans_model.specs.declared.start.Start.{Start}
use Rattle.ans_sauce.specs.declared.parts.Parts.{Parts}
use Rattle.ans_sauce.specs.Parts.{ShowsParts, content_of, size_of, record_of}
use Rattle.ans_sauce.specs.Split.{IsSplit}
use Rattle.ans_report.specs.Headings.{heading_of}
use Rattle.ans_report.specs.NeedsBytes.{Needs, needs_bytes}
use Rattle.ans_report.specs.ReportBytes.{IsFitting, refused_text, report_bytes}
use Rattle.ans_report.specs.declared.report.Report.{Report}
use Rattle.ans_report.specs.declared.report.Report.TheVariants as report
use Rattle.ans_sauce.specs.Judged.{is_pass}
use Rattle.ans_sauce.specs.declared.judged.Judged.TheVariants as judged
use Rattle.ans_verdict.specs.declared.verdict.Verdict.{Verdict}
use Rattle.ans_verdict.specs.declared.verdict.Verdict.TheVariants.{Pass, Refused}
use Rattle.ans_verdict.specs.FileNeeds.{IsNeedsOf, needs_fault}
use Rattle.ans_verdict.proofs.VerdictLemmas.{needs_class, refuses}
use Rattle.ans_verdict.specs.FileVerdict.{Passes, IsRefusedFor, IsVerdictOn, IsGoodFile, fault_of}
use Rattle.ans_check.specs.CommandText.{heading, ReportsPass, ReportsFault, ReportsCheck}
use Rattle.ans_report.specs.RecordReports.{ReportsRecordFault}
use Rattle.ans_check.specs.CommandText.{ReportsNeeds, ReportsContent, ReportsTokens}
use Rattle.ans_report.specs.RecordReports.{ReportsRecord}
use Rattle.ans_check.specs.CommandText.{IsReportOf, ReportsPicture, shown_text}
use Rattle.ans_check.specs.CommandText.{ReportsChecked, ReportsFaultOf, checked_of, is_of_start, is_passed}
use Rattle.ans_check.specs.declared.check_file.Checked.{Checked}
use Rattle.ans_check.specs.declared.check_file.Checked.TheVariants as checked
use Rattle.ans_model.specs.declared.mends.Mends.{Mends}
use Rattle.ans_fix.specs.Suggested.{IsFix}
use Rattle.clap.specs.Words.{Text}
use Rattle.ans_check.specs.LastWords.{last_words}
use Rattle.ans_check.specs.WhyTold.{ReportsTold, told_text}
use Rattle.ans_why.specs.Explained.{IsTrueOf, Why}
use Rattle.ans_options.specs.declared.command.Form.{Form}

-- the heading of a file's parts
heading_is : (apart : FileParts) (parts : Parts) (start : Option Start) → ShowsParts apart parts
    → heading_of parts start ≡ heading apart start
heading_is apart parts start h = rw (h.content, h.sauce, h.notes)

-- a pass is reported by the heading of its parts, its picture and its cells
pass_reported : (file : List ℕ) (start : Start) (cells : Bool) (apart : FileParts) (parts : Parts) (picture : Picture)
    → ShowsParts apart parts → Passes file start apart picture
    → ReportsPass file start cells (report_text (heading_of parts (Some start)) (Passed picture cells))
pass_reported file start cells apart parts picture shows h = record {
  apart = apart;
  picture = picture;
  passes = h;
  text_is = ap (λ (v : Heading). report_text v (Passed picture cells)) (heading_is apart parts (Some start) shows);
}

-- a refusal is reported by the heading of its parts and its fault
fault_reported : (file : List ℕ) (start : Start) (named : Option Start) (apart : FileParts) (parts : Parts) (f : Fault)
    → ShowsParts apart parts → IsRefusedFor file start apart f
    → ReportsFault file start named (report_text (heading_of parts named) (RefusedFor f))
fault_reported file start named apart parts f shows h = record {
  apart = apart;
  fault = f;
  refused = h;
  text_is = ap (λ (v : Heading). report_text v (RefusedFor f)) (heading_is apart parts named shows);
}

pub record_reported : (file : List ℕ) (f : Fault) → record_fault file ≡ Some f
    → ReportsRecordFault file (refusal_text f)
record_reported file f e = record { fault = f; fault_is = e; text_is = refl }

-- where a good file would have no fault, and there is one, the file is not good
never_good : (file : List ℕ) (start : Start) (f : Fault) → (IsGoodFile file start → Some f ≡ None)
    → ¬ IsGoodFile file start
never_good file start f good is_good =
    let same : Some f ≡ None = good is_good in
    cc

-- what holds of some values holds of values equal to them
of_equals : {A B C : Type 0} (P : A → B → C → Type 0) {a x : A} {b y : B} {c z : C} → a ≡ x → b ≡ y → c ≡ z → P x y z
    → P a b c
of_equals P p q r h = rw (p, q, r) h

-- the report that tells a verdict which is true of a file reports on it
pub verdict_reported : {G : Type 0} (file : List ℕ) (start : Start) (cells : Bool) (v : Verdict G) (r : Report G)
    → IsReportOf v start cells r
    → IsVerdictOn file start v → (IsGoodFile file start → fault_of v ≡ None)
    → ReportsCheck file start cells (not (is_some (fault_of v))) (report_bytes r)
verdict_reported file start cells (Pass parts picture) (report.Pass told from shown asked) (p, s, i, c) h good =
    of_equals (λ (v : Parts) (at : Start) (see : Picture × Bool). ReportsPass file start cells
    (report_text (heading_of v (Some at)) (Passed see.0 see.1)))
    p s (ap₂ (λ (a : Picture) (b : Bool). (a, b)) i c) (pass_reported file start cells h.0 parts picture h.1 h.2)
verdict_reported file start cells (Refused (Some parts) f) (report.Refused told from fault) (p, s, same) h good =
    of_equals (λ (v : Option Parts) (at : Start) (why : Fault). ReportsCheck file start cells false
    (refused_text v at why))
    p s same (never_good file start f good, inl (fault_reported file start (Some start) h.0 parts f h.1 h.2))
verdict_reported file start cells (Refused None f) (report.Refused told from fault) (p, s, same) h good =
    of_equals (λ (v : Option Parts) (at : Start) (why : Fault). ReportsCheck file start cells false
    (refused_text v at why))
    p s same (never_good file start f good, inr (record_reported file f h))
verdict_reported file start cells (Pass parts picture) (report.Refused told from fault) never h good = absurd never
verdict_reported file start cells (Refused parts f) (report.Pass told from shown asked) never h good = absurd never

-- such a report is of a fault of the start exactly if its fault is
fault_by_start : (file : List ℕ) (start : Start) (apart : FileParts) (parts : Parts) (f : Fault)
    → ShowsParts apart parts → IsRefusedFor file start apart f
    → ReportsFaultOf file start (is_of_start f.cause) (report_text (heading_of parts (Some start)) (RefusedFor f))
unfolding fault_reported
fault_by_start file start apart parts f shows h = (fault_reported file start (Some start) apart parts f shows h, refl)

-- a refusal of the content is reported, by whether its fault is of the start
content_checked : (file : List ℕ) (start : Start) (cells of_start : Bool) (text : List ℕ) → ¬ IsGoodFile file start
    → ReportsFaultOf file start of_start text
    → ReportsChecked file start cells (if of_start then checked.RefusedByStart else checked.Refused) text
content_checked file start cells true text never h = (never, h)
content_checked file start cells false text never h = (never, inl h)

-- and of a check it tells whether it is refused for a fault of the start
pub check_reported : {G : Type 0} (file : List ℕ) (start : Start) (cells : Bool) (v : Verdict G) (r : Report G)
    → IsReportOf v start cells r
    → IsVerdictOn file start v → (IsGoodFile file start → fault_of v ≡ None)
    → ReportsChecked file start cells (checked_of v) (report_bytes r)
check_reported {G} file start cells (Pass parts picture) (report.Pass told from shown asked) same h good =
    verdict_reported {G = G} file start cells (Pass parts picture) (report.Pass told from shown asked) same h good
check_reported file start cells (Refused (Some parts) f) (report.Refused told from fault) (p, s, same) h good =
    of_equals (λ (v : Option Parts) (at : Start) (why : Fault). ReportsChecked file start cells
    (if is_of_start f.cause then checked.RefusedByStart else checked.Refused) (refused_text v at why))
    p s same
    (content_checked file start cells (is_of_start f.cause) (refused_text (Some parts) start f)
    (never_good file start f good) (fault_by_start file start h.0 parts f h.1 h.2))
check_reported file start cells (Refused None f) (report.Refused told from fault) (p, s, same) h good =
    of_equals (λ (v : Option Parts) (at : Start) (why : Fault). ReportsChecked file start cells checked.Refused
    (refused_text v at why))
    p s same (never_good file start f good, inr (record_reported file f h))
check_reported file start cells (Pass parts picture) (report.Refused told from fault) never h good = absurd never
check_reported file start cells (Refused parts f) (report.Pass told from shown asked) never h good = absurd never

-- what a check answers and writes is right of whether the file passes
pub passed_by : (file : List ℕ) (start : Start) (cells : Bool) (found : Checked) (text : List ℕ)
    → ReportsChecked file start cells found text → ReportsCheck file start cells (is_passed found) text
passed_by file start cells checked.Pass text h = h
passed_by file start cells checked.Refused text (never, inl h) = (never, inl h.0)
passed_by file start cells checked.Refused text (never, inr h) = (never, inr h)
passed_by file start cells checked.RefusedByStart text (never, h) = (never, inl h.0)

-- and so does the report that tells a refusal
pub refused_reported : {G : Type 0} (file : List ℕ) (start : Start) (v : Verdict G) (parts : Option Parts) (f : Fault)
    (r : Report G) → v ≡ Refused parts f → IsReportOf v start false r → IsVerdictOn file start v
    → (IsGoodFile file start → fault_of v ≡ None) → ReportsCheck file start false false (report_bytes r)
refused_reported {G} file start v parts f r e told h good =
    let passed : not (is_some (fault_of v)) ≡ false = ap (λ (w : Verdict G). not (is_some (fault_of w))) e in
    subst (λ (b : Bool). ReportsCheck file start false b (report_bytes r)) passed
    (verdict_reported file start false v r told h good)

-- its picture fits its parts
pub fitting : {G : Type 0} (file : List ℕ) (start : Start) (cells : Bool) (v : Verdict G) (r : Report G)
    → IsReportOf v start cells r
    → IsVerdictOn file start v → IsFitting r
fitting file start cells (Pass parts picture) (report.Pass told from shown asked) (p, s, i, c) h =
    of_equals (λ (v : Parts) (see : Picture) (at : Start). see.size ≡ size_of v)
    p i s (h.2.good.shows.is_picture.size ∙ sym (ap stated_size h.1.sauce))
fitting file start cells (Refused parts f) (report.Refused told from fault) same h = tt
fitting file start cells (Pass parts picture) (report.Refused told from fault) never h = absurd never
fitting file start cells (Refused parts f) (report.Pass told from shown asked) never h = absurd never

-- the picture of a pass, by its parts, shows it
pub picture_reported : (file : List ℕ) (start : Start) (form : Form) (parts : Parts) (picture : Picture)
    → (apart : FileParts) × ShowsParts apart parts × Passes file start apart picture
    → ReportsPicture file start form (shown_text form (record_of parts) picture)
picture_reported file start form parts picture h = record {
  apart = h.0;
  picture = picture;
  passes = h.2;
  text_is = ap (λ (v : List ℕ). shown_text form v picture) h.1.sauce;
}

-- what is said of a file, where it is true
pub why_reported : (name : Option Text) (file : List ℕ) (why : Why) (fix : Option Mends) (passed : Bool)
    → IsTrueOf file why → IsFix file why fix → passed ≡ is_pass why
    → ReportsTold name file passed (told_text (last_words name) why fix)
why_reported name file why fix passed h tried e = record {
  said = why;
  told = record { is_true = h; fix = fix; is_fix = tried; text_is = refl };
  passed_is = e;
}

-- the text of an accepted record
pub sauce_reported : (file : List ℕ) (parts : Parts) (s : IsSplit file parts) → ReportsRecord file (record_text s.apart)
sauce_reported file parts s = record { apart = s.apart; accepts = s.accepts; text_is = refl }

-- the tokens of an accepted file's content
content_reported : (file : List ℕ) (parts : Parts) (bytes : List ℕ) (fault : Option Fault) (text : List ℕ)
    → IsSplit file parts → bytes ≡ content_of parts
    → TokensText bytes fault text → ReportsContent file fault text
content_reported file parts bytes fault text s same t = record {
  apart = s.apart;
  accepts = s.accepts;
  text_is = subst (λ (v : List ℕ). TokensText v fault text) (same ∙ s.shows.content) t;
}

-- whether there is a fault, by whether there is none
pub some_by_none : {T : Type 0} (o : Option T) → is_some o ≡ not (not (is_some o))
some_by_none None = refl
some_by_none (Some v) = refl

-- whether there is no fault, by the one that was told
pub none_told : {T : Type 0} (told fault : Option T) (none : Bool) → is_some told ≡ not none → told ≡ fault
    → none ≡ not (is_some fault)
none_told told fault none e same =
    go none (is_some fault) (ap (λ o. is_some o) (sym same) ∙ e)
  where
    go : (none some : Bool) → some ≡ not none → none ≡ not some
    go true some is = rw is refl
    go false some is = rw is refl

-- the answer to it is right where it tells whether there is no fault
pub tokens_reported : (file : List ℕ) (parts : Parts) (bytes : List ℕ) (fault : Option Fault) (passed : Bool)
    (text : List ℕ) → IsSplit file parts
    → bytes ≡ content_of parts → TokensText bytes fault text → is_some fault ≡ not passed
    → ReportsTokens file passed text
tokens_reported file parts bytes None true text s same t e = content_reported file parts bytes None text s same t
tokens_reported file parts bytes None false text s same t e = absurd (true≢false (sym e))
tokens_reported file parts bytes (Some f) true text s same t e = absurd (true≢false e)
tokens_reported file parts bytes (Some f) false text s same t e = inl
    (f, content_reported file parts bytes (Some f) text s same t)

-- what is found of a file's needs reports on it
pub needs_reported : (file : List ℕ) (n : Needs) → IsNeedsOf file n → (IsGoodFile file all_known → needs_fault n ≡ None)
    → ReportsNeeds file (is_pass n) (needs_bytes n)
needs_reported file (judged.NoContent f) h good =
    (never_good file all_known f good, inr (record_reported file f h))
needs_reported file (judged.Refused parts f) h good =
    let (apart, shows, refused) = refuses file all_known parts h.0 f h.1 in
    (never_good file all_known f good, inl (fault_reported file all_known None apart parts f shows refused))
needs_reported file (judged.Passes parts class) h good =
    let (apart, shows, needs) = needs_class file class parts h.0 h.1 in
    record {
      apart = apart;
      class = class;
      needs = needs;
      text_is = ap (λ (v : Heading). needs_text v class) (heading_is apart parts None shows);
    }
