-- Runs computed from the definitions.
use Prim.Native.Nat.{ℕ}
use mathlib.Core.Path.{◌≡◌, refl}
use mathlib.Core.List.{List, [], ◌∷◌}
use lib.IntN.{ℤ, pos, negsuc}
use Rattle.store.specs.Layout.{row_word, store_graph, room}
use Rattle.counts.specs.Signed.{clamped}
use Rattle.running.specs.Results.{result_of}
use Rattle.running.specs.Values.{of_inputs, tick_value, value}
use Rattle.running.specs.Run.{trace}

-- row 0 is the sum of row 1, channel 0, and row 2, a hold of row 0
abbrev pub adding : List ℕ
adding = 3 ∷ 262144 ∷ 2 ∷ 1 ∷ 2 ∷ 0 ∷ 0 ∷ 65536 ∷ 0 ∷ 0 ∷ 0 ∷ 0 ∷ 0 ∷ 393216 ∷ 1 ∷ 0 ∷ 0 ∷ 0 ∷ 0 ∷ []

-- 5, -7, 2,147,483,647, 1: four ticks of one channel
abbrev pub four : List ℤ
four = pos 5 ∷ negsuc 6 ∷ pos 2147483647 ∷ pos 1 ∷ []

pub adds :
    (value (store_graph room adding) (trace four 1) 0 0 ≡ pos 5)
    × (value (store_graph room adding) (trace four 1) 1 0 ≡ negsuc 1)
    × (value (store_graph room adding) (trace four 1) 2 0 ≡ pos 2147483645)
    × (value (store_graph room adding) (trace four 1) 3 0 ≡ pos 2147483646)
unfolding value tick_value of_inputs result_of trace store_graph row_word clamped
adds = (refl, refl, refl, refl)

-- row 0 is a hold of row 1, the difference of channel 1, row 2, and channel 0, row 3
abbrev pub delaying : List ℕ
delaying =
    4 ∷ 393216 ∷ 1 ∷ 1 ∷ 0 ∷ 0 ∷ 0 ∷ 196608 ∷ 2 ∷ 2 ∷ 3 ∷ 0 ∷ 0
    ∷ 65537 ∷ 0 ∷ 0 ∷ 0 ∷ 0 ∷ 0 ∷ 65536 ∷ 0 ∷ 0 ∷ 0 ∷ 0 ∷ 0 ∷ []

-- 3 and 10, 20 and 4, 0 and 0: three ticks of two channels
abbrev pub pairs : List ℤ
pairs = pos 3 ∷ pos 10 ∷ pos 20 ∷ pos 4 ∷ pos 0 ∷ pos 0 ∷ []

pub delays :
    (value (store_graph room delaying) (trace pairs 2) 0 0 ≡ pos 0)
    × (value (store_graph room delaying) (trace pairs 2) 1 0 ≡ pos 7)
    × (value (store_graph room delaying) (trace pairs 2) 2 0 ≡ negsuc 15)
unfolding value tick_value of_inputs result_of trace store_graph row_word clamped
delays = (refl, refl, refl)
