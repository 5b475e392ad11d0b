-- Steps of putting a text.
use Rattle.std.proofs.Common.{◌≡◌, ◌↔◌, ℕ, ◌+◌, ◌<◌, ◌≤◌, Bool, true, false, true≢false, List, [], ◌∷◌, ◌++◌, length}
use Rattle.std.proofs.Common.{take, drop, get_or, Ok, Err, IsErr, IsTrue, refl, sym, ap, subst, ◌∙◌, arith}
use Rattle.std.proofs.Common.{append_assoc, append-nil, length-append, take-append-drop}
use Rattle.std.specs.Prelude.{Option, Result, OnOk}
use Rattle.std.specs.List.{flat_map}
use Rattle.std.proofs.lemmas.List.{take_all, take_more}
use Rattle.std.proofs.lemmas.Grind.{flat_map-append}
use Rattle.std.proofs.Math.Seq.{take-append_seam}
use Rattle.std.specs.Io.KnownBytes.{Appends}
use Rattle.std.proofs.KnownBytes.{Appends-nil, Appends-trans}
use Rattle.ans_write.specs.Tried.{has_failed, inner_of}
use Rattle.ans_write.specs.Puts.{HandsOn, Puts, device_failed}
use Rattle.ans_write.specs.Writes.{AppendsPrefix, AppendsUnless, WritesText}
use Rattle.ans_write.specs.declared.outbox.Outbox.{Outbox}
use Rattle.ans_write.specs.declared.tried.Tried.{Tried}

-- ---- what the device takes
handed_by : {W : Type 0} (contents : W → Option (List ℕ)) (a b c : Outbox W) (x y : List ℕ) (failed : Bool)
    → device_failed b ≡ failed → HandsOn contents a b x → HandsOn contents b c y → HandsOn contents a c (x ++ y)
handed_by contents a b c x y true at p q =
    let stays = q.stays_failed at in
    record {
      same_device = q.same_device ∙ p.same_device;
      taken = p.taken ++ q.taken;
      rest = p.rest ++ y;
      whole = ap (λ (v : List ℕ). (p.taken ++ v) ++ (p.rest ++ y)) stays.1
          ∙ ap (λ (v : List ℕ). v ++ (p.rest ++ y)) (append-nil p.taken) ∙ sym (append_assoc p.taken p.rest y)
          ∙ ap (λ (v : List ℕ). v ++ y) p.whole ∙ append_assoc a.waiting.items x y;
      appended = Appends-trans _ _ _ p.taken q.taken p.appended q.appended;
      waits = λ works. absurd (true≢false (sym stays.0 ∙ works));
      stays_failed = λ failed. (stays.0, ap (λ (v : List ℕ). v ++ q.taken) (p.stays_failed failed).1 ∙ stays.1);
    }
handed_by contents a b c x y false at p q = record {
  same_device = q.same_device ∙ p.same_device;
  taken = p.taken ++ q.taken;
  rest = q.rest;
  whole = append_assoc p.taken q.taken q.rest ∙ ap (λ (v : List ℕ). p.taken ++ v) q.whole
      ∙ ap (λ (v : List ℕ). p.taken ++ (v ++ y)) (p.waits at) ∙ sym (append_assoc p.taken p.rest y)
      ∙ ap (λ (v : List ℕ). v ++ y) p.whole ∙ append_assoc a.waiting.items x y;
  appended = Appends-trans _ _ _ p.taken q.taken p.appended q.appended;
  waits = q.waits;
  stays_failed = λ failed. absurd (true≢false (sym (p.stays_failed failed).0 ∙ at));
}

-- one text was handed on after another
pub HandsOn-then : {W : Type 0} {contents : W → Option (List ℕ)} {a b c : Outbox W} {x y : List ℕ}
    → HandsOn contents a b x → HandsOn contents b c y → HandsOn contents a c (x ++ y)
HandsOn-then {W} {contents} {a} {b} {c} {x} {y} p q = handed_by contents a b c x y (device_failed b) refl p q

-- once the device has failed, more may be said to have been handed on
pub HandsOn-longer : {W : Type 0} {contents : W → Option (List ℕ)} {a b : Outbox W} {x : List ℕ} (y : List ℕ)
    → device_failed b ≡ true
    → HandsOn contents a b x → HandsOn contents a b (x ++ y)
HandsOn-longer {W} {contents} {a} {b} {x} y failed p = record {
  same_device = p.same_device;
  taken = p.taken;
  rest = p.rest ++ y;
  whole = sym (append_assoc p.taken p.rest y) ∙ ap (λ (v : List ℕ). v ++ y) p.whole ∙ append_assoc a.waiting.items x y;
  appended = p.appended;
  waits = λ works. absurd (true≢false (sym failed ∙ works));
  stays_failed = p.stays_failed;
}

-- text was added to what waits
pub HandsOn-gathered : {W : Type 0} {contents : W → Option (List ℕ)} (a b : Outbox W) (x : List ℕ)
    → b.device ≡ a.device → b.waiting.items ≡ a.waiting.items ++ x → HandsOn contents a b x
HandsOn-gathered {W} {contents} a b x same gathered = record {
  same_device = rw same refl;
  taken = [];
  rest = a.waiting.items ++ x;
  whole = refl;
  appended = rw same (Appends-nil (contents (inner_of a.device.now)));
  waits = λ works. gathered;
  stays_failed = λ failed. (rw same failed, refl);
}

written_by : {W : Type 0} (contents : W → Option (List ℕ)) (a b : Outbox W) (piece x : List ℕ) (failed : Bool)
    → device_failed b ≡ failed → b.device.ghost_name ≡ a.device.ghost_name → device_failed a ≡ false
    → AppendsUnless failed (contents (inner_of a.device.now)) (contents (inner_of b.device.now)) piece
    → piece ≡ a.waiting.items ++ x → b.waiting.items ≡ [] → HandsOn contents a b x
written_by contents a b piece x true at same works (n, within, appended) is empty = record {
  same_device = same;
  taken = take n piece;
  rest = drop n piece;
  whole = take-append-drop n piece ∙ is;
  appended = appended;
  waits = λ worked. absurd (true≢false (sym at ∙ worked));
  stays_failed = λ failed. absurd (true≢false (sym failed ∙ works));
}
written_by contents a b piece x false at same works appended is empty = record {
  same_device = same;
  taken = piece;
  rest = [];
  whole = append-nil piece ∙ is;
  appended = appended;
  waits = λ worked. empty;
  stays_failed = λ failed. absurd (true≢false (sym failed ∙ works));
}

-- what waited and the text were written, or a prefix of them, and nothing waits
pub HandsOn-written : {W : Type 0} {contents : W → Option (List ℕ)} (a b : Outbox W) (piece x : List ℕ)
    → b.device.ghost_name ≡ a.device.ghost_name → device_failed a ≡ false
    → AppendsUnless (device_failed b) (contents (inner_of a.device.now)) (contents (inner_of b.device.now)) piece
    → piece ≡ a.waiting.items ++ x → b.waiting.items ≡ [] → HandsOn contents a b x
HandsOn-written {W} {contents} a b piece x same works wrote is empty =
    written_by contents a b piece x (device_failed b) refl same works wrote is empty

-- ---- what is put
-- nothing was put
pub Puts-nothing : {W : Type 0} {contents : W → Option (List ℕ)} (a : Outbox W) → Puts contents a a []
Puts-nothing {W} {contents} a = record {
  hands_on = HandsOn-gathered a a [] refl (sym (append-nil a.waiting.items));
  spares = λ works fits. refl;
}

-- no more waits than had waited and was put
waits_no_more : {W : Type 0} {contents : W → Option (List ℕ)} (a b : Outbox W) (x : List ℕ) → Puts contents a b x
    → device_failed b ≡ false → length b.waiting.items ≤ length a.waiting.items + length x
waits_no_more a b x p works =
    let h = p.hands_on in
    omega (
      arith,
      ap length (h.waits works),
      ap length h.whole,
      length-append h.taken h.rest,
      length-append a.waiting.items x,
    )

-- one text was put after another
pub Puts-then : {W : Type 0} {contents : W → Option (List ℕ)} {a b c : Outbox W} {x y : List ℕ} → Puts contents a b x
    → Puts contents b c y → Puts contents a c (x ++ y)
Puts-then {W} {contents} {a} {b} {c} {x} {y} p q = record {
  hands_on = HandsOn-then p.hands_on q.hands_on;
  spares = λ works fits.
      let same : b.device.now ≡ a.device.now = p.spares works (omega (arith, fits, length-append x y)) in
      let still : device_failed b ≡ false = ap (λ (d : Tried W). has_failed d) same ∙ works in
      q.spares still (omega (arith, fits, length-append x y, waits_no_more a b x p still)) ∙ same;
}

-- once the device has failed, more may be said to have been put
pub Puts-longer : {W : Type 0} {contents : W → Option (List ℕ)} {a b : Outbox W} {x : List ℕ} (y : List ℕ)
    → device_failed b ≡ true
    → Puts contents a b x → Puts contents a b (x ++ y)
Puts-longer {W} {contents} {a} {b} {x} y failed p = record {
  hands_on = HandsOn-longer y failed p.hands_on;
  spares = λ works fits. p.spares works (omega (arith, fits, length-append x y));
}

-- the same text
pub Puts-same : {W : Type 0} {contents : W → Option (List ℕ)} {a b : Outbox W} {x y : List ℕ} → x ≡ y
    → Puts contents a b x → Puts contents a b y
Puts-same {W} {contents} {a} {b} same p =
    let P : List ℕ → Type 0 = λ t. Puts contents a b t in
    subst P same p

-- one more text of a list was put
pub Puts-next : {W A : Type 0} {contents : W → Option (List ℕ)} {a b c : Outbox W} (f : A → List ℕ) (xs : List A)
    (i : ℕ) (d : A)
    → i < length xs → Puts contents a b (flat_map f (take i xs)) → Puts contents b c (f (get_or xs i d))
    → Puts contents a c (flat_map f (take (i + 1) xs))
Puts-next f xs i d lt before more =
    let taken : flat_map f (take (i + 1) xs) ≡ flat_map f (take i xs) ++ f (get_or xs i d) =
    ap (flat_map f) (take_more xs i d lt) ∙ flat_map-append f (take i xs) (get_or xs i d ∷ [])
    ∙ ap (λ ys. flat_map f (take i xs) ++ ys) (append-nil (f (get_or xs i d))) in
    Puts-same (sym taken) (Puts-then before more)

-- all texts of a list were put
pub Puts-every : {W A : Type 0} {contents : W → Option (List ℕ)} {a b : Outbox W} (f : A → List ℕ) (xs : List A) (i : ℕ)
    → length xs ≤ i → Puts contents a b (flat_map f (take i xs)) → Puts contents a b (flat_map f xs)
Puts-every f xs i le p = Puts-same (ap (flat_map f) (take_all i xs le)) p

-- once the device has failed, all texts of a list may be said to have been put
pub Puts-all : {W A : Type 0} {contents : W → Option (List ℕ)} {a b : Outbox W} (f : A → List ℕ) (xs : List A) (i : ℕ)
    → device_failed b ≡ true → Puts contents a b (flat_map f (take i xs)) → Puts contents a b (flat_map f xs)
Puts-all f xs i failed p =
    let all : flat_map f xs ≡ flat_map f (take i xs) ++ flat_map f (drop i xs) =
    ap (flat_map f) (sym (take-append-drop i xs)) ∙ flat_map-append f (take i xs) (drop i xs) in
    Puts-same (sym all) (Puts-longer (flat_map f (drop i xs)) failed p)

works_before_by : {W : Type 0} (contents : W → Option (List ℕ)) (a b : Outbox W) (x : List ℕ) (failed : Bool)
    → device_failed a ≡ failed
    → HandsOn contents a b x → device_failed b ≡ false → device_failed a ≡ false
works_before_by contents a b x true at p works = absurd (true≢false (sym (p.stays_failed at).0 ∙ works))
works_before_by contents a b x false at p works = at

-- a device that works had not failed before
pub works_before : {W : Type 0} {contents : W → Option (List ℕ)} {a b : Outbox W} {x : List ℕ} → HandsOn contents a b x
    → device_failed b ≡ false
    → device_failed a ≡ false
works_before {W} {contents} {a} {b} {x} p works = works_before_by contents a b x (device_failed a) refl p works

-- where nothing had waited, a prefix of the text was written
pub AppendsPrefix-put : {W : Type 0} {contents : W → Option (List ℕ)} {a c : Outbox W} {x : List ℕ}
    → a.waiting.items ≡ [] → HandsOn contents a c x
    → AppendsPrefix (contents (inner_of a.device.now)) (contents (inner_of c.device.now)) x
AppendsPrefix-put {W} {contents} {a} {c} {x} none p =
    let whole : p.taken ++ p.rest ≡ x = p.whole ∙ ap (λ (v : List ℕ). v ++ x) none in
    let prefix : take (length p.taken) x ≡ p.taken =
    ap (take (length p.taken)) (sym whole) ∙ take-append_seam p.taken p.rest in
    let Q : List ℕ → Type 0 = λ t. Appends (contents (inner_of a.device.now)) (contents (inner_of c.device.now)) t in
    (length p.taken, omega (arith, ap length whole, length-append p.taken p.rest), subst Q (sym prefix) p.appended)

-- where nothing had waited and nothing waits at a device that works, the text was written
pub Appends-put : {W : Type 0} {contents : W → Option (List ℕ)} {a c : Outbox W} {x : List ℕ} → a.waiting.items ≡ []
    → HandsOn contents a c x
    → device_failed c ≡ false → c.waiting.items ≡ []
    → Appends (contents (inner_of a.device.now)) (contents (inner_of c.device.now)) x
Appends-put {W} {contents} {a} {c} {x} none p works empty =
    let left : p.rest ≡ [] = sym (p.waits works) ∙ empty in
    let whole : p.taken ≡ x =
    sym (append-nil p.taken) ∙ ap (λ (v : List ℕ). p.taken ++ v) (sym left) ∙ p.whole
    ∙ ap (λ (v : List ℕ). v ++ x) none in
    let Q : List ℕ → Type 0 = λ t. Appends (contents (inner_of a.device.now)) (contents (inner_of c.device.now)) t in
    subst Q whole p.appended

works_unless : (P : Type 0) (failed : Bool) → (P → ⊥) → (P ↔ IsTrue failed) → failed ≡ false
works_unless P true never h = absurd (never (h.1 refl))
works_unless P false never h = refl

-- a text that was put is handed on with what waits
pub HandsOn-put : {W : Type 0} {contents : W → Option (List ℕ)} {a b c : Outbox W} {x : List ℕ} → Puts contents a b x
    → HandsOn contents b c [] → HandsOn contents a c x
HandsOn-put {W} {contents} {a} {b} {c} {x} p q =
    let P : List ℕ → Type 0 = λ t. HandsOn contents a c t in
    subst P (append-nil x) (HandsOn-then p.hands_on q)

-- a text that was put and finished is written
pub WritesText-finished : {W T E : Type 0} {contents : W → Option (List ℕ)} {a b c : Outbox W} {x : List ℕ}
    (w : Tried W) (r : Result T E)
    → a.device.now ≡ w → a.waiting.items ≡ [] → Puts contents a b x → HandsOn contents b c []
    → (IsErr r ↔ IsTrue (device_failed c))
    → OnOk r (c.waiting.items ≡ []) → WritesText (contents (inner_of w)) (contents (inner_of c.device.now)) r x
WritesText-finished {W} {T} {E} {contents} {a} {b} {c} {x} w (Ok v) is none p q told empty =
    let Q : Tried W → Type 0 = λ d. Appends (contents (inner_of d)) (contents (inner_of c.device.now)) x in
    subst Q is (Appends-put none (HandsOn-put p q) (works_unless _ (device_failed c) (λ e. cc) told) empty)
WritesText-finished {W} {T} {E} {contents} {a} {b} {c} {x} w (Err e) is none p q told empty =
    let Q : Tried W → Type 0 = λ d. AppendsPrefix (contents (inner_of d)) (contents (inner_of c.device.now)) x in
    subst Q is (AppendsPrefix-put none (HandsOn-put p q))
