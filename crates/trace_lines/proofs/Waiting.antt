-- The text of a trace, cut at an event, while it is written in parts.
use Rattle.std.proofs.Common.{◌≡◌, ℕ, ◌+◌, ◌<◌, List, [], ◌∷◌, ◌++◌, take, drop, length, get_or, refl, sym, ap, ◌∙◌, append_assoc, append-nil, Option}
use Rattle.std.proofs.lemmas.List.{take_more, take-append-drop}
use Rattle.session_journal.specs.declared.event.Event.{Event}
use Rattle.reply_sheet.proofs.TextLemmas.{Waits, waits_more}
use Rattle.trace_lines.specs.EventText.{event_text, events_text, head_text, trace_text}

module _ (names : List (List ℕ)) (tables : List ℕ) where
  abbrev lines : List Event → List ℕ
  lines es = events_text names tables es

  abbrev text : List Event → List ℕ
  text es = trace_text names tables es

  lines_cut : (xs ys : List Event) → lines (xs ++ ys) ≡ lines xs ++ lines ys
  lines_cut [] ys = refl
  lines_cut (x ∷ xs) ys = ap (λ (t : List ℕ). event_text names tables x ++ t) (lines_cut xs ys) ∙ sym (append_assoc (event_text names tables x) (lines xs) (lines ys))

  text_cut : (xs ys : List Event) → text (xs ++ ys) ≡ text xs ++ lines ys
  text_cut xs ys = ap (λ (t : List ℕ). head_text ++ t) (lines_cut xs ys) ∙ sym (append_assoc head_text (lines xs) (lines ys))

  -- the text, cut at an event
  pub text_at : (es : List Event) (i : ℕ) → text es ≡ text (take i es) ++ lines (drop i es)
  text_at es i = ap text (sym (take-append-drop i es)) ∙ text_cut (take i es) (drop i es)

  text_more : (es : List Event) (i : ℕ) (d : Event) → i < length es → text (take (i + 1) es) ≡ text (take i es) ++ event_text names tables (get_or es i d)
  text_more es i d h =
      let e : Event = get_or es i d in
      ap text (take_more es i d h)
      ∙ text_cut (take i es) (e ∷ [])
      ∙ ap (λ (t : List ℕ). text (take i es) ++ t) (append-nil (event_text names tables e))

  -- one line more waits
  pub line_waits : (es : List Event) (i : ℕ) (e : Event) (old now : Option (List ℕ)) (waiting longer : List ℕ) → i < length es → get_or es i e ≡ e → longer ≡ waiting ++ event_text names tables e
      → Waits old now waiting (text (take i es)) → Waits old now longer (text (take (i + 1) es))
  line_waits es i e old now waiting longer h is more w =
      waits_more old now waiting longer (text (take i es)) (event_text names tables e) (text (take (i + 1) es)) w more
      (text_more es i e h ∙ ap (λ (x : Event). text (take i es) ++ event_text names tables x) is)
