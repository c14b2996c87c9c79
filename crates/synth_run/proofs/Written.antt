-- The replies to parts, written one after another.
use Rattle.std.proofs.Common.{◌≡◌, ℕ, zero, suc, ◌+◌, ◌-◌, ◌≤◌, ◌<◌, List, [], ◌∷◌, ◌++◌, Bool, drop, Option, false, get_or, length, map, min, take, Result, Ok, Err, refl, sym, ap, subst, ◌∙◌, append_assoc, append-nil, arith}
use Rattle.std.specs.Prelude.{◌||◌, OnErr, OnOk, slice_index_or, slice_set}
use Rattle.std.specs.Io.KnownBytes.{Appends}
use Rattle.std.proofs.KnownBytes.{Appends-trans}
use Rattle.std.proofs.lemmas.Grind.{flat_map-append}
use Rattle.std.proofs.lemmas.List.{length-map, take-append-le, take_min}
use Rattle.reply_lines.specs.declared.reply.Reply.{Reply}
use Rattle.synth_run.specs.Routes.{Writes, any_error, bytes_of, left_after, left_of, left_to, replies_to, reply_to}
use Rattle.synth_run.specs.declared.desks.Writer.{Writer}
use Rattle.synth_run.specs.declared.routes.Tag.{Tag}
use Rattle.synth_run.specs.declared.routes.Tag.TheVariants as tagged
use Rattle.synth_run.proofs.Answering.{set_long}
use Rattle.synth_run.proofs.Speaking.{any_both, appends_nothing, or_none, take_both}

-- what holds in any case holds where there was an error
pub on_err : {A E P : Type 0} (r : Result A E) → P → OnErr r P
on_err (Ok x) h = tt
on_err (Err e) h = h

-- ---- the replies to parts

-- a writer wrote the replies to the first parts, and has those to these left
pub record Written (parts : List Tag) (answers : List (List Reply)) (writer : Writer) (left : List Tag) (had has : Option (List ℕ)) : Type 0 where
  pub done : List Reply
  pub all : replies_to parts answers ≡ done ++ replies_to left (left_of writer)
  pub count : length writer.left.items ≡ length answers
  pub refused : writer.refused ≡ any_error done
  pub written : Appends had has (bytes_of done)

pub written_first : (parts : List Tag) (answers : List (List Reply)) (writer : Writer) (had : Option (List ℕ)) → left_of writer ≡ answers → writer.refused ≡ false
    → Written parts answers writer parts had had
written_first parts answers writer had left refused = record {
  done = [];
  all = ap (replies_to parts) (sym left);
  count = sym (length-map writer.left.items (λ replies. replies.now)) ∙ ap length left;
  refused = refused;
  written = appends_nothing had;
}

left_long : (tag : Tag) (left : List (List Reply)) → length (left_after tag left) ≡ length left
left_long (tagged.Command desk) left = set_long left (desk - 1) (drop 1 (left_to desk left))
left_long (tagged.To desk) left = refl
left_long tagged.Stray left = refl

module _ (parts : List Tag) (answers : List (List Reply)) (writer next : Writer) (tag : Tag) (before left : List Tag) (had mid has : Option (List ℕ)) (cut : before ≡ tag ∷ left)
    (w : Written parts answers writer before had mid) where
  abbrev replies : List Reply
  replies = reply_to tag (left_of writer)

  abbrev others : List Reply
  others = replies_to left (left_after tag (left_of writer))

  all_is : replies_to parts answers ≡ w.done ++ (replies ++ others)
  all_is = w.all ∙ ap (λ (tags : List Tag). w.done ++ replies_to tags (left_of writer)) cut

  -- a part more
  pub written_next : Writes writer next tag mid has → Written parts answers next left had has
  written_next h = record {
    done = w.done ++ replies;
    all = all_is ∙ sym (append_assoc w.done replies others) ∙ ap (λ (l : List (List Reply)). (w.done ++ replies) ++ replies_to left l) (sym h.left);
    count =
        sym (length-map next.left.items (λ rs. rs.now)) ∙ ap length h.left ∙ left_long tag (left_of writer)
        ∙ length-map writer.left.items (λ rs. rs.now) ∙ w.count;
    refused =
        h.refused ∙ ap (λ (b : Bool). b || any_error replies) w.refused
        ∙ sym (any_both (λ (reply : Reply). reply.error) w.done replies);
    written =
        subst (Appends had has) (sym (flat_map-append (λ (reply : Reply). reply.text) w.done replies))
        (Appends-trans had mid has (bytes_of w.done) (bytes_of replies) w.written h.written);
  }

  -- not the whole of the next reply
  pub written_cut : (n : ℕ) × Appends mid has (take n (bytes_of replies)) → (n : ℕ) × Appends had has (take n (bytes_of (replies_to parts answers)))
  written_cut (n, written) =
      let size = min n (length (bytes_of replies)) in
      let cut_is : take size (bytes_of replies ++ bytes_of others) ≡ take n (bytes_of replies) =
      take-append-le size (bytes_of replies) (bytes_of others) (omega arith) ∙ take_min n (bytes_of replies) in
      let bytes_are : bytes_of (replies_to parts answers) ≡ bytes_of w.done ++ (bytes_of replies ++ bytes_of others) =
      ap bytes_of all_is ∙ flat_map-append (λ (reply : Reply). reply.text) w.done (replies ++ others)
      ∙ ap (λ (l : List ℕ). bytes_of w.done ++ l) (flat_map-append (λ (reply : Reply). reply.text) replies others) in (
        length (bytes_of w.done) + size,
        subst (Appends had has)
            (sym (ap (take (length (bytes_of w.done) + size)) bytes_are ∙ take_both (bytes_of w.done) (bytes_of replies ++ bytes_of others) size ∙ ap (λ (l : List ℕ). bytes_of w.done ++ l) cut_is))
            (Appends-trans had mid has (bytes_of w.done) (take n (bytes_of replies)) w.written written),
      )

-- the replies to all parts
pub written_all : (parts : List Tag) (answers : List (List Reply)) (writer : Writer) (left : List Tag) (had has : Option (List ℕ)) → left ≡ [] → Written parts answers writer left had has
    → (writer.refused ≡ any_error (replies_to parts answers)) × Appends had has (bytes_of (replies_to parts answers))
written_all parts answers writer left had has none w =
    let all : replies_to parts answers ≡ w.done = w.all ∙ ap (λ (tags : List Tag). w.done ++ replies_to tags (left_of writer)) none ∙ append-nil w.done in
    (w.refused ∙ ap any_error (sym all), subst (λ (rs : List Reply). Appends had has (bytes_of rs)) (sym all) w.written)

-- nothing yet
pub written_none : (parts : List Tag) (answers : List (List Reply)) (had : Option (List ℕ)) → (n : ℕ) × Appends had had (take n (bytes_of (replies_to parts answers)))
written_none parts answers had = (0, appends_nothing had)

-- ---- the next reply of a desk

set_itself : {A : Type 0} (xs : List A) (k : ℕ) (d : A) → k < length xs → slice_set xs k (slice_index_or xs k d) ≡ xs
set_itself [] k d lt = refl
set_itself (x ∷ xs) zero d lt = refl
set_itself (x ∷ xs) (suc k) d lt = ap (λ l. x ∷ l) (set_itself xs k d (omega (arith, lt)))

-- what stands first in a list, and the others
first_of : {A : Type 0} (xs : List A) (x : A) → 1 ≤ length xs → x ≡ get_or xs 0 x → xs ≡ x ∷ drop 1 xs
first_of [] x some is = absurd (omega (arith, some))
first_of (y ∷ xs) x some is = ap (λ z. z ∷ xs) (sym is)

-- the list at a place, by what stands first in it
place_is : {R A : Type 0} (now : R → List A) (refs : List R) (k : ℕ) (d : R) → k < length refs → slice_index_or (map now refs) k [] ≡ now (get_or refs k d)
place_is now [] k d lt = absurd (omega (arith, lt))
place_is now (r ∷ refs) zero d lt = refl
place_is now (r ∷ refs) (suc k) d lt = place_is now refs k d (omega (arith, lt))

pub next_is : {R A : Type 0} (now : R → List A) (refs : List R) (k : ℕ) (d : R) (xs : List A) (x : A) → k < length refs → xs ≡ now (get_or refs k d) → 1 ≤ length xs
    → x ≡ get_or xs 0 x → slice_index_or (map now refs) k [] ≡ x ∷ drop 1 xs
next_is now refs k d xs x lt at some is = place_is now refs k d lt ∙ sym at ∙ first_of xs x some is

-- another list at a place
pub set_now : {R A : Type 0} (now : R → A) (refs : List R) (k : ℕ) (r : R) → map now (slice_set refs k r) ≡ slice_set (map now refs) k (now r)
set_now now [] k r = refl
set_now now (s ∷ refs) zero r = refl
set_now now (s ∷ refs) (suc k) r = ap (λ l. now s ∷ l) (set_now now refs k r)

-- a desk has no reply left
pub wrote_none : (writer : Writer) (desk : ℕ) (had : Option (List ℕ)) → left_to desk (left_of writer) ≡ [] → (1 ≤ desk) × (desk ≤ length writer.left.items)
    → Writes writer writer (tagged.Command desk) had had
wrote_none writer desk had none range =
    let left = left_of writer in
    let count = length-map writer.left.items (λ rs. rs.now) in
    let some = range.0 in
    let few = range.1 in
    let itself : slice_set left (desk - 1) (left_to desk left) ≡ left = set_itself left (desk - 1) [] (omega (arith, some, few, count)) in
    record {
      left = sym (ap (λ (rs : List Reply). slice_set left (desk - 1) (drop 1 rs)) none ∙ ap (λ (rs : List Reply). slice_set left (desk - 1) rs) (sym none) ∙ itself);
      refused = sym (ap (λ (rs : List Reply). writer.refused || any_error (take 1 rs)) none ∙ or_none writer.refused);
      written = subst (λ (rs : List Reply). Appends had had (bytes_of (take 1 rs))) (sym none) (appends_nothing had);
    }

-- the next of those that it has left
pub wrote_next : (old new : Writer) (desk : ℕ) (reply : Reply) (rest : List Reply) (had has : Option (List ℕ)) → left_to desk (left_of old) ≡ reply ∷ rest
    → left_of new ≡ slice_set (left_of old) (desk - 1) rest → new.refused ≡ (old.refused || reply.error) → Appends had has reply.text
    → Writes old new (tagged.Command desk) had has
wrote_next old new desk reply rest had has is left refused written = record {
  left = left ∙ ap (λ (rs : List Reply). slice_set (left_of old) (desk - 1) (drop 1 rs)) (sym is);
  refused =
      refused ∙ ap (λ (b : Bool). old.refused || b) (sym (or_none reply.error))
      ∙ ap (λ (rs : List Reply). old.refused || any_error (take 1 rs)) (sym is);
  written =
      subst (λ (rs : List Reply). Appends had has (bytes_of (take 1 rs))) (sym is)
      (subst (Appends had has) (sym (append-nil reply.text)) written);
}

pub wrote_ok : {A E : Type 0} (r : Result A E) (old new : Writer) (desk : ℕ) (reply : Reply) (rest : List Reply) (had has : Option (List ℕ)) → left_to desk (left_of old) ≡ reply ∷ rest
    → left_of new ≡ slice_set (left_of old) (desk - 1) rest → OnOk r (new.refused ≡ (old.refused || reply.error)) → OnOk r (Appends had has reply.text)
    → OnOk r (Writes old new (tagged.Command desk) had has)
wrote_ok (Ok x) old new desk reply rest had has is left refused written = wrote_next old new desk reply rest had has is left refused written
wrote_ok (Err e) old new desk reply rest had has is left refused written = tt

-- not the whole of it
pub wrote_cut : (writer : Writer) (desk : ℕ) (reply : Reply) (rest : List Reply) (had has : Option (List ℕ)) → left_to desk (left_of writer) ≡ reply ∷ rest
    → (n : ℕ) × Appends had has (take n reply.text) → (n : ℕ) × Appends had has (take n (bytes_of (reply_to (tagged.Command desk) (left_of writer))))
wrote_cut writer desk reply rest had has is (n, written) = (
  n,
  subst (λ (rs : List Reply). Appends had has (take n (bytes_of (take 1 rs)))) (sym is)
      (subst (λ (l : List ℕ). Appends had has (take n l)) (sym (append-nil reply.text)) written),
)

pub wrote_err : {A E : Type 0} (r : Result A E) (writer : Writer) (desk : ℕ) (reply : Reply) (rest : List Reply) (had has : Option (List ℕ)) → left_to desk (left_of writer) ≡ reply ∷ rest
    → OnErr r ((n : ℕ) × Appends had has (take n reply.text)) → OnErr r ((n : ℕ) × Appends had has (take n (bytes_of (reply_to (tagged.Command desk) (left_of writer)))))
wrote_err (Ok x) writer desk reply rest had has is front = tt
wrote_err (Err e) writer desk reply rest had has is front = wrote_cut writer desk reply rest had has is front

-- ---- the reply to a line that says something of desks

pub wrote_one : (old new : Writer) (tag : Tag) (reply : Reply) (had has : Option (List ℕ)) → reply_to tag (left_of old) ≡ reply ∷ [] → left_after tag (left_of old) ≡ left_of old
    → left_of new ≡ left_of old → new.refused ≡ (old.refused || reply.error) → Appends had has reply.text → Writes old new tag had has
wrote_one old new tag reply had has is after left refused written = record {
  left = left ∙ sym after;
  refused =
      refused ∙ ap (λ (b : Bool). old.refused || b) (sym (or_none reply.error))
      ∙ ap (λ (rs : List Reply). old.refused || any_error rs) (sym is);
  written =
      subst (λ (rs : List Reply). Appends had has (bytes_of rs)) (sym is)
      (subst (Appends had has) (sym (append-nil reply.text)) written);
}

pub one_cut : (writer : Writer) (tag : Tag) (reply : Reply) (had has : Option (List ℕ)) → reply_to tag (left_of writer) ≡ reply ∷ []
    → (n : ℕ) × Appends had has (take n reply.text) → (n : ℕ) × Appends had has (take n (bytes_of (reply_to tag (left_of writer))))
one_cut writer tag reply had has is (n, written) = (
  n,
  subst (λ (rs : List Reply). Appends had has (take n (bytes_of rs))) (sym is)
      (subst (λ (l : List ℕ). Appends had has (take n l)) (sym (append-nil reply.text)) written),
)
