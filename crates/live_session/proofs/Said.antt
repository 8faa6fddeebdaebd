-- A handler that runs alone on tables that can be printed, with arguments that can be, replies what can be printed, and leaves such tables.
use Rattle.std.proofs.Common.{◌≡◌, ℕ, zero, suc, List, [], ◌∷◌, Option, Some, None, refl, sym, ap, subst}
use Rattle.std.specs.List.{AllByRecursion}
use Rattle.session_values.specs.Names.{Begins}
use Rattle.session_values.specs.ReplyText.{IsPrintable}
use Rattle.session_values.specs.declared.value.Value.{Value}
use Rattle.session_values.specs.declared.op.Op.{Op}
use Rattle.session_values.specs.declared.reply.Reply.{Reply}
use Rattle.session_values.specs.Dialogue.{Next, Calls, Answers, Dialogue, rest}
use Rattle.session_values.specs.Reply.{values_of}
use Rattle.session_values.specs.Serial.{Served, serve}
use Rattle.session_values.specs.Tables.{Bindings, Container, Members, Tables, reply, step}
use Rattle.session_values.proofs.Named.{printable_kept}
use Rattle.session_journal.proofs.Serial.{serve-answers, serve-calls}
use Rattle.handler_check.specs.File.{File}
use Rattle.handler_check.specs.Bounds.{calls_bound}
use Rattle.handler_check.specs.Dialogue.{env_of, next}
use Rattle.handler_check.specs.Resolved.{code_at}
use Rattle.request_files.specs.declared.request.Request.{Request}
use Rattle.serve_faults.specs.Language.{IsNamedFile}
use Rattle.serve_faults.specs.Printable.{IsPrintableTable}
use Rattle.serve_faults.proofs.PrintableRuns.{NextSaid, Prints, ticket_prints}
use Rattle.serve_faults.proofs.PrintableTables.{reply_printable, step_holds}
use Rattle.text_lines.specs.Text.{Text}

-- the answer, if there is one, and the tables can be printed
pub record IsSaid (names : List Text) (s : Served) : Type 0 where
  pub answer : (r : Reply) → s.answer ≡ Some r → AllByRecursion (IsPrintable names) (values_of r)
  pub after : AllByRecursion (IsPrintableTable names) s.after

module _ (names : List Text) where
  told : (q r : Reply) → ◌≡◌ {A = Option Reply} (Some q) (Some r) → AllByRecursion (IsPrintable names) (values_of q) → AllByRecursion (IsPrintable names) (values_of r)
  told q r e h = let is : q ≡ r = cc in subst (λ (x : Reply). AllByRecursion (IsPrintable names) (values_of x)) is h

  none_told : (r : Reply) → ◌≡◌ {A = Option Reply} None (Some r) → AllByRecursion (IsPrintable names) (values_of r)
  none_told r e = absurd (cc e)

  answers_said : (n : ℕ) (f : Dialogue) (ts : Tables) (q : Reply) → f [] ≡ Answers q → NextSaid names (f []) → AllByRecursion (IsPrintableTable names) ts → IsSaid names (serve n f ts)
  answers_said n f ts q e h k = subst (IsSaid names) (sym (serve-answers n f ts q e)) (record { answer = λ r is. told q r is (subst (NextSaid names) e h); after = k })

  serve_said : (n : ℕ) (f : Dialogue) (ts : Tables) → Prints names f → AllByRecursion (IsPrintableTable names) ts → IsSaid names (serve n f ts)
  serve_said zero f ts h k = elim (f []) as (λ x. f [] ≡ x → IsSaid names (serve zero f ts)) [
    | Calls op ↦ λ e. subst (IsSaid names) (sym (stopped op e)) (record { answer = λ r is. none_told r is; after = k })
    | Answers r ↦ λ e. answers_said zero f ts r e (h [] tt) k
  ] refl
    where
      stopped : (op : Op) → f [] ≡ Calls op → serve zero f ts ≡ record { entries = []; answer = None; after = ts }
      stopped op e = ap (λ (x : Next). elim x as (λ _. Served) [ Calls o ↦ record { entries = []; answer = None; after = ts } | Answers s ↦ record { entries = []; answer = Some s; after = ts } ]) e
  serve_said (suc n) f ts h k = elim (f []) as (λ x. f [] ≡ x → IsSaid names (serve (suc n) f ts)) [
    | Calls op ↦ λ e.
        (let v : Value = reply ts op in
        let said : IsPrintable names v = reply_printable names ts op k in
        let stored : IsPrintable names op.key × IsPrintable names op.value = subst (NextSaid names) e (h [] tt) in
        let more = serve_said n (rest f (v ∷ [])) (step ts op) (λ replies l. h (v ∷ replies) (said, l)) (step_holds names ts op k stored.0 stored.1) in
        subst (IsSaid names) (sym (serve-calls n f ts op e)) (record { answer = more.answer; after = more.after }))
    | Answers r ↦ λ e. answers_said (suc n) f ts r e (h [] tt) k
  ] refl

-- so of a handler, whose literals are named
pub run_said : (names : List Text) (f : File) (h : ℕ) (args : List Value) (ts : Tables) → IsNamedFile names f → AllByRecursion (IsPrintable names) args → AllByRecursion (IsPrintableTable names) ts
    → IsSaid names (serve (calls_bound (code_at f h)) (next (code_at f h) (env_of args)) ts)
run_said names f h args ts named printable held =
    let rs : List Request = record { handler = h; args = args } ∷ [] in
    serve_said names (calls_bound (code_at f h)) (next (code_at f h) (env_of args)) ts (ticket_prints names f [] rs named tt (printable, tt) 0) held

-- what can be printed can be with more names
table_kept : (old new : List Text) (c : Container) → Begins old new → IsPrintableTable old c → IsPrintableTable new c
table_kept old new (Bindings m) b h = λ k v at. let one = h k v at in (printable_kept old new k b one.0, printable_kept old new v b one.1)
table_kept old new (Members s) b h = λ k at. printable_kept old new k b (h k at)

pub tables_kept : (old new : List Text) (ts : Tables) → Begins old new → AllByRecursion (IsPrintableTable old) ts → AllByRecursion (IsPrintableTable new) ts
tables_kept old new [] b h = tt
tables_kept old new (c ∷ ts) b h = (table_kept old new c b h.0, tables_kept old new ts b h.1)
