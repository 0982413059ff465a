use Rattle.std.proofs.Common.{◌≡◌, ℕ, List, [], ◌++◌, take, drop, length, None, Some, Ok, Err, Option, Result, OnOk, IfSome, subst, ap, ap₂, ◌∙◌, rules, arith}
use Rattle.std.specs.Option.{option_map}
use Rattle.std.specs.Io.KnownBytes.{Appends}
use Rattle.std.proofs.lemmas.List.{same_lists, places}
use Rattle.job.specs.Listings.{Printed}
use Rattle.harvest.specs.Answering.{Answers}
use Rattle.harvest.proofs.Prefix.{settled}
use Rattle.harvest.proofs.answer.Goals as goal

on_ok : {A E : Type 0} {P Q : Type 0} (r : Result A E) → (P → Q) → OnOk r P → OnOk r Q
on_ok (Ok x) f p = f p
on_ok (Err e) f p = p

of_known : (known : Option (List ℕ)) (read : List ℕ) (Q : List ℕ → Type 0) → ((job : List ℕ) → read ≡ take 60001 job → Q job) → IfSome (option_map (take 60001) known) (λ xs. read ≡ xs) → IfSome known Q
of_known None read Q f p = p
of_known (Some job) read Q f p = f job p

only : (known : Option (List ℕ)) (before items read : List ℕ) → before ≡ [] → read ≡ items → IfSome known (λ xs. items ≡ before ++ xs) → IfSome known (λ xs. read ≡ xs)
only None before items read b r p = p
only (Some xs) before items read b r p = r ∙ p ∙ ap (λ ys. ys ++ xs) b

cut : (text page : List ℕ) (n : ℕ) → n ≡ length text → take n (text ++ drop (length text) page) ≡ text
cut text page n e = same_lists _ _ (search (rules, places)) (λ k d h. grind (arith, places))

pub returns : goal.returns
returns g c = on_ok c.write_all.result (λ appended. of_known (g.R.Read.remaining c.args.input) c.deref.result.now (Answers (g.W.Write.contents c.args.out.now) (g.W.Write.contents c.write_all.new.self)) (λ job read. made job read appended) told) c.write_all.ensures.bytes
  where
    text : List ℕ
    text = c.print-length.ensures.text

    told : IfSome (option_map (take 60001) (g.R.Read.remaining c.args.input)) (λ xs. c.deref.result.now ≡ xs)
    told = only (option_map (take 60001) (g.R.Read.remaining c.args.input)) c.new-bytes.result.items c.read_to_end.new.buf.items c.deref.result.now c.new-bytes.ensures.items c.deref.ensures.value
        (subst (λ o. IfSome o (λ xs. c.read_to_end.new.buf.items ≡ c.new-bytes.result.items ++ xs)) (ap₂ (λ limit inner. option_map (take limit) (g.R.Read.remaining inner)) c.take.ensures.limit c.take.ensures.inner) c.in_ok-read_to_end.ensures.bytes)

    made : (job : List ℕ) → c.deref.result.now ≡ take 60001 job → Appends (g.W.Write.contents c.args.out.now) (g.W.Write.contents c.write_all.new.self) (take c.print-length.result c.print-length.new.out) → Answers (g.W.Write.contents c.args.out.now) (g.W.Write.contents c.write_all.new.self) job
    made job read appended = record {
      text = text;
      printed = settled job text (subst (λ j. Printed j text) read c.print-length.ensures.printed);
      behind = subst (Appends (g.W.Write.contents c.args.out.now) (g.W.Write.contents c.write_all.new.self)) (ap (take c.print-length.result) c.print-length.ensures.front ∙ cut text _ _ c.print-length.ensures.behind) appended;
    }
