-- The phrase of the handlers of a made session, with the places of its words.
use Rattle.std.proofs.Common.{arith}
use Rattle.session_values.specs.declared.kind.Kind.TheVariants as kind
use Rattle.session_values.specs.declared.kind.TableKind.TheVariants as table
use Rattle.handler_check.specs.File.{File}
use Rattle.handler_check.specs.Handler.{Handler}
use Rattle.syntax_grammar.specs.Phrase.{named, name_atom, plain, no_factor, term, no_term, sum, no_atom, more_atom, operands, a_call, result_right, no_value, more_value, let_stmt, call_stmt, reply_stmt, no_stmt, more_stmts, block, no_more, more_param, no_param, some_params, HandlerPhrase, a_handler, no_handler, more_handlers, a_table, no_table, more_tables, FilePhrase, a_file}
use Rattle.syntax_grammar.specs.Tree.{handler_tree, file_tree}

abbrev pub login_phrase : HandlerPhrase
login_phrase = a_handler 23 (named 2 31) 36 (some_params (record { first = (named 3 37); more = (more_param 38 (named 4 40) no_more) })) 43 (block 45
    (more_stmts (let_stmt 49 (named 5 53) 57 (result_right (a_call kind.Swap 59 (operands 63 (named 0 64) (record { atoms = (more_atom 69 (name_atom 3 71) (more_atom 72 (name_atom 4 74) no_atom)); few = omega arith }) 77))) 78)
    (more_stmts (call_stmt (a_call kind.Mark 82 (operands 86 (named 1 87) (record { atoms = (more_atom 93 (name_atom 3 95) no_atom); few = omega arith }) 96)) 97)
    (more_stmts (reply_stmt 101 (record { first = (sum (term (plain (name_atom 5 107)) no_factor) no_term); more = no_value; few = omega arith }) 110)
    no_stmt))) 112)

abbrev pub logout_phrase : HandlerPhrase
logout_phrase = a_handler 114 (named 6 122) 128 (some_params (record { first = (named 3 129); more = no_more })) 130 (block 132
    (more_stmts (call_stmt (a_call kind.Del 136 (operands 139 (named 0 140) (record { atoms = (more_atom 145 (name_atom 3 147) no_atom); few = omega arith }) 148)) 149)
    (more_stmts (call_stmt (a_call kind.Drop 153 (operands 157 (named 1 158) (record { atoms = (more_atom 164 (name_atom 3 166) no_atom); few = omega arith }) 167)) 168)
    no_stmt)) 170)

abbrev pub seen_phrase : HandlerPhrase
seen_phrase = a_handler 172 (named 7 180) 184 (some_params (record { first = (named 3 185); more = no_more })) 186 (block 188
    (more_stmts (let_stmt 192 (named 8 196) 199 (result_right (a_call kind.Get 201 (operands 204 (named 0 205) (record { atoms = (more_atom 210 (name_atom 3 212) no_atom); few = omega arith }) 213))) 214)
    (more_stmts (let_stmt 218 (named 9 222) 225 (result_right (a_call kind.Has 227 (operands 230 (named 1 231) (record { atoms = (more_atom 237 (name_atom 3 239) no_atom); few = omega arith }) 240))) 241)
    (more_stmts (reply_stmt 245 (record { first = (sum (term (plain (name_atom 8 251)) no_factor) no_term); more = (more_value 253 (sum (term (plain (name_atom 9 255)) no_factor) no_term) no_value); few = omega arith }) 257)
    no_stmt))) 259)

abbrev pub crowd_phrase : HandlerPhrase
crowd_phrase = a_handler 261 (named 10 269) 274 no_param 275 (block 277
    (more_stmts (let_stmt 281 (named 11 285) 287 (result_right (a_call kind.Count 289 (operands 294 (named 1 295) (record { atoms = no_atom; few = omega arith }) 301))) 302)
    (more_stmts (reply_stmt 306 (record { first = (sum (term (plain (name_atom 11 312)) no_factor) no_term); more = no_value; few = omega arith }) 313)
    no_stmt)) 315)

-- the whole file
abbrev pub made_phrase : FilePhrase
made_phrase = a_file (more_tables (a_table table.Map 0 (named 0 4) 9) (more_tables (a_table table.Set 11 (named 1 15) 21) no_table))
    (more_handlers login_phrase (more_handlers logout_phrase (more_handlers seen_phrase (more_handlers crowd_phrase no_handler))))

-- its tree
abbrev pub made_file : File
made_file = file_tree made_phrase

abbrev pub login : Handler
login = handler_tree login_phrase

abbrev pub logout : Handler
logout = handler_tree logout_phrase

abbrev pub seen : Handler
seen = handler_tree seen_phrase

abbrev pub crowd : Handler
crowd = handler_tree crowd_phrase
