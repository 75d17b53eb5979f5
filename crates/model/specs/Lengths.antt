-- Lengths, in octets.
use Rattle.std.specs.Prelude.{ℕ}

-- the lent state: clock and blocks, and the waiting octets behind them
abbrev pub state : ℕ
state = 18656

-- the block of one controller in it
abbrev pub block : ℕ
block = 4372

-- where the waiting octets begin: behind the clock, 4, and four blocks
abbrev pub blocks_end : ℕ
blocks_end = 17492

-- the waiting octets: the number taken, 4, and room for those of the longest packet that is kept
abbrev pub waiting : ℕ
waiting = 1164

-- the longest packet whose octets are kept while it comes in (02, E6)
abbrev pub longest_kept : ℕ
longest_kept = 1160

-- what is kept of a longer one: the header, 6, and four octets of the parameters (02, E6)
abbrev pub long_head : ℕ
long_head = 10

-- the reply buffer that a call asks for, save aside (01, What a call answers, row 4)
abbrev pub reply_buffer : ℕ
reply_buffer = 1024

-- the largest image, and the reply buffer that save asks for (01, The image)
abbrev pub largest_image : ℕ
largest_image = 16014
