mod Timing
