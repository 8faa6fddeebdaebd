-- What arrives of several clients.
use Rattle.std.specs.Prelude.{◌≡◌, ℕ, suc, ◌≤◌, ◌==◌, List, [], ◌∷◌, cond, slice_index_or}
use Rattle.reply_sheet.specs.declared.arrival.Arrival.{Arrival}

-- the clients of a session
abbrev pub max_clients : ℕ
max_clients = 16

-- the places of one client among these, in order
abbrev pub of : ℕ → List Arrival → List ℕ
of p [] = []
of p (x ∷ xs) = cond (x.client == p) (x.place ∷ of p xs) (of p xs)

-- the numbers from the first to the second, which isn't among them, in order and each once
abbrev pub Rises : ℕ → List ℕ → ℕ → Type 0
Rises a [] b = a ≡ b
Rises a (x ∷ xs) b = (x ≡ a) × Rises (suc a) xs b

-- how many requests a client has; one that doesn't exist has none
abbrev pub count_at : List ℕ → ℕ → ℕ
count_at counts p = slice_index_or counts p 0

-- of each client its first places arrived, in order from 0 and each once, and no more than it has
abbrev pub IsDrawn : List ℕ → List Arrival → Type 0
IsDrawn counts got = (p : ℕ) → (n : ℕ) × Rises 0 (of p got) n × (n ≤ count_at counts p)
