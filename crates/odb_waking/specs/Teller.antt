-- Where a thread is that wakes the pump or a loop, of the steps that it takes in their machines. [P 15.2]

-- it made something owed, and is to tell the pump; it is to look whether the pump is awake; it made something due sooner, and is to call the pump; it is to wake it; it is done
pub data Teller : Type 0 where
  tells : Teller
  looks : Teller
  calls : Teller
  wakes : Teller
  done : Teller

-- it gave a loop something, and is to say so; it is to look whether the loop counts as asleep, which it doesn't any more then; it is to wake it; it is done
pub data Rouser : Type 0 where
  flags : Rouser
  swaps : Rouser
  rouses : Rouser
  ended : Rouser
