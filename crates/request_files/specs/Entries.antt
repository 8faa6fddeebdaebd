-- Requests whose arguments lie one after another.
use Rattle.std.specs.Prelude.{◌≡◌, ℕ, ◌+◌, ◌≤◌, List, ◌++◌, length, map, take, drop}
use Rattle.std.specs.List.{AllByRecursion}
use Rattle.session_values.specs.declared.value.Value.{Value}
use Rattle.request_files.specs.declared.request.Request.{Request}
use Rattle.request_files.specs.declared.entry.Entry.{Entry}

-- the request of an entry, where these are the arguments of all requests
abbrev pub request_in : List Value → Entry → Request
request_in values e = record {
  handler = e.handler;
  args = take e.args (drop e.first values);
}

-- the requests of these entries, where these are the arguments of all requests
abbrev pub requests_in : List Value → List Entry → List Request
requests_in values entries = map (request_in values) entries

-- the arguments of each entry lie among so many
abbrev pub AreWithin : ℕ → List Entry → Type 0
AreWithin n entries = AllByRecursion (λ (e : Entry). e.first + e.args ≤ n) entries

-- the arguments of the entry are those that came behind the others
pub record IsBehind (old new : List Value) (e : Entry) : Type 0 where
  pub more : List Value
  pub is : new ≡ old ++ more
  pub first : e.first ≡ length old
  pub args : e.args ≡ length more
