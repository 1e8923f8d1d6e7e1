mod Clips
