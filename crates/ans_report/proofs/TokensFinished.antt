-- The tokens of the content that were put and finished are written.
use Rattle.std.proofs.Common.{◌≡◌, ℕ, false, List, [], sym, subst}
use Rattle.std.specs.Prelude.{Option, Result, Ok, Err, IfErr}
use Rattle.std.specs.Io.KnownBytes.{Appends}
use Rattle.ans_model.specs.declared.fault.Fault.{Fault}
use Rattle.ans_model.specs.Text.TokensText.{TokensText}
use Rattle.ans_write.specs.Tried.{inner_of}
use Rattle.ans_write.specs.declared.tried.Tried.{Tried}
use Rattle.ans_write.specs.Puts.{HandsOn, device_failed}
use Rattle.ans_write.specs.Writes.{AppendsPrefix}
use Rattle.ans_report.specs.TokenLines.{PutsTokens}
use Rattle.ans_write.specs.declared.outbox.Outbox.{Outbox}
use Rattle.ans_write.proofs.PutsLemmas.{HandsOn-put, works_before, Appends-put, AppendsPrefix-put}

-- at a device that works, with the fault that was told
pub tokens_written : {W : Type 0} {contents : W → Option (List ℕ)} {a b c : Outbox W} (w : Tried W)
    (content : List ℕ) (told : Option Fault)
    → a.device.now ≡ w → a.waiting.items ≡ [] → PutsTokens contents a b content told → HandsOn contents b c []
    → device_failed c ≡ false → c.waiting.items ≡ []
    → (text : List ℕ) × TokensText content told text
    × Appends (contents (inner_of w)) (contents (inner_of c.device.now)) text
tokens_written {W} {contents} {a} {b} {c} w content told is none p q works empty =
    let P : Option Fault → Type 0 = λ fault. TokensText content fault p.text in
    let Q : Tried W → Type 0 = λ d. Appends (contents (inner_of d)) (contents (inner_of c.device.now)) p.text in (
      p.text,
      subst P (sym (p.told_is (works_before q works))) p.is_text,
      subst Q is (Appends-put none (HandsOn-put p.puts q) works empty),
    )

-- at any device, a prefix
pub tokens_begun : {W : Type 0} {contents : W → Option (List ℕ)} {a b c : Outbox W} (w : Tried W) (content : List ℕ)
    (told : Option Fault)
    → a.device.now ≡ w → a.waiting.items ≡ [] → PutsTokens contents a b content told → HandsOn contents b c []
    → (fault : Option Fault) × (text : List ℕ) × TokensText content fault text
    × AppendsPrefix (contents (inner_of w)) (contents (inner_of c.device.now)) text
tokens_begun {W} {contents} {a} {b} {c} w content told is none p q =
    let Q : Tried W → Type 0 = λ d. AppendsPrefix (contents (inner_of d)) (contents (inner_of c.device.now)) p.text in (
      p.fault,
      p.text,
      p.is_text,
      subst Q is (AppendsPrefix-put none (HandsOn-put p.puts q)),
    )

-- what holds anyway holds at an error
pub IfErr-always : {T E P : Type 0} (r : Result T E) → P → IfErr r (λ _. P)
IfErr-always (Ok v) p = tt
IfErr-always (Err e) p = p
