-- What a session replied and holds is what is written of one file with all its lines.
use Rattle.std.proofs.Common.{◌≡◌, ℕ, List, map, refl, sym, ◌∙◌, ap}
use Rattle.session_values.specs.ReplyText.{reply_text}
use Rattle.session_values.specs.Serial.{serial_replies, tables_before}
use Rattle.session_values.specs.Tables.{Tables}
use Rattle.session_values.specs.declared.reply.Reply.{Reply}
use Rattle.handler_check.specs.File.{File}
use Rattle.text_lines.specs.Rows.{names_behind, row_of, rows}
use Rattle.text_lines.specs.Text.{Text}
use Rattle.request_files.specs.Requests.{request_of}
use Rattle.request_files.specs.Session.{session}
use Rattle.serve_faults.specs.ReadBack.{texts_of}
use Rattle.table_lines.specs.TableText.{table_text, written_table}
use Rattle.serve_faults.specs.Input.{Parts}
use Rattle.serve_faults.specs.Session.{all_names_of, replies_text, requests_of, rows_of, session_of_parts, tables_text}
use Rattle.live_session.specs.Live.{IsLive, IsOneFile, IsUndriven, LiveView, dump_of, requests_in, session_in}
use Rattle.live_session.proofs.Alone.{serial_answers, serial_tables}
use Rattle.live_session.proofs.Lines.{behind_from, rows_from}

-- a request doesn't look at its line's number
unnumbered : (first names : List Text) (f : File) (n m : ℕ) (w : Text) (ws : List Text) → request_of first names f (row_of n w ws) ≡ request_of first names f (row_of m w ws)
unfolding request_of
unnumbered first names f n m w ws = refl

module _ (v : LiveView) (live : IsLive v) (alone : IsUndriven v) where
  pub answers_are : v.replies ≡ serial_replies (session_in v) (session_in v).requests
  answers_are = serial_answers v.file v.opened (requests_in v) v.replies v.tables (live.served alone)

  pub tables_are : v.tables ≡ tables_before (session_in v) (session_in v).requests
  tables_are = serial_tables v.file v.opened (requests_in v) v.replies v.tables (live.served alone)

  module _ (parts : Parts) (one : IsOneFile v parts) where
    rows_same : rows_of parts ≡ rows parts.first v.lines
    rows_same = ap (rows parts.first) one.lines_are

    names_same : all_names_of parts ≡ v.names
    names_same =
        ap (λ (ns : List Text). names_behind ns (rows_of parts)) one.names_are ∙ ap (names_behind v.first_names) rows_same
        ∙ behind_from v.first_names parts.first 0 v.lines ∙ sym (live.names_are alone)

    requests_same : requests_of parts v.file ≡ requests_in v
    requests_same =
        (λ i. map (request_of (one.names_are i) (names_same i) v.file) (rows_same i))
        ∙ rows_from (request_of v.first_names v.names v.file) (unnumbered v.first_names v.names v.file) parts.first 0 v.lines

    session_same : session_of_parts parts v.file ≡ session_in v
    session_same = λ i. session v.file (one.opened_are i) (requests_same i)

    pub text_is : replies_text parts v.file ≡ reply_text v.names 0 v.replies
    text_is =
        (λ i. reply_text (names_same i) 0 (serial_replies (session_same i) (session_same i).requests))
        ∙ ap (λ (rs : List Reply). reply_text v.names 0 rs) (sym answers_are)

    pub dump_is : tables_text parts v.file ≡ dump_of v
    dump_is =
        (λ i. table_text (texts_of (names_same i) v.file.tables) (map (written_table (names_same i)) (tables_before (session_same i) (session_same i).requests)))
        ∙ ap (λ (ts : Tables). table_text (texts_of v.names v.file.tables) (map (written_table v.names) ts)) (sym tables_are)
